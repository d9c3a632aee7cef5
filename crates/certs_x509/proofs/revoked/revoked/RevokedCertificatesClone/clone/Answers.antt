use Rattle.std.proofs.Common.{◌∙◌, rules}
use Rattle.certs_x509.proofs.Splits.{same_listing}
use Rattle.certs_x509.proofs.revoked.revoked.RevokedCertificatesClone.clone.Goals as goal

pub returns : goal.returns
returns c = record {
  cases = same_listing c.in_ok-octets.octets c.self.inside.octets _ _ (search rules) (search rules) c.self.inside.listing.1 ∙ c.self.view_is;
}
