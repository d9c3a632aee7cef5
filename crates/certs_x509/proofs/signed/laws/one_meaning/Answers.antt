use Rattle.certs_x509.specs.Signed.{signed}
use Rattle.certs_x509.proofs.Again.{signed_sound}
use Rattle.certs_x509.proofs.signed.laws.one_meaning.Goals as goal

pub returns : goal.returns
returns c = λ m r. signed.one_meaning signed_sound m ((r, tt), ((tt, tt), tt))
