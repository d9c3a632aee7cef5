use Rattle.std.proofs.Common.{◌≡◌, List}
use Rattle.certs_extension.specs.CrlText.{RevokedValue}
use Rattle.certs_x509.specs.Listed.{serials_of}
use Rattle.certs_x509.proofs.Searches.{says_ok}
use Rattle.certs_x509.proofs.revoked.search.serials_in.Goals as goal

pub returns-in-Ok : goal.returns-in-Ok
returns-in-Ok c = λ xs s. says_ok (λ (ys : List RevokedValue). c.in-Ok.serials.items ≡ serials_of ys) (λ p q h. h) s c.in-Ok.ensures.decoded
