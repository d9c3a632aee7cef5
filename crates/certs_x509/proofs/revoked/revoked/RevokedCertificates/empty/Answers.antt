use Rattle.std.proofs.Common.{rules, [], ap}
use Rattle.certs_x509.specs.bcder_content.Kept.{CapturedValue}
use Rattle.certs_x509.proofs.Lists.{spelled_is, no_entries}
use Rattle.certs_x509.proofs.revoked.revoked.RevokedCertificates.empty.Goals as goal

pub returns : goal.returns
returns c = spelled_is c.empty.result _ [] (search rules) (no_entries c.empty.result (ap (λ (v : CapturedValue). v.octets) c.empty.ensures))
