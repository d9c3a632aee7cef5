use Rattle.certs_extension.proofs.Certs.{one_cert}
use Rattle.certs.proofs.again.laws.octets_are_one_cert.Goals as goal

pub returns : goal.returns
returns c = one_cert
