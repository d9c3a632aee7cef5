use Rattle.std.proofs.Common.{◌∙◌, rules}
use Rattle.certs_x509.proofs.Splits.{same_captured, same_listing}
use Rattle.certs_x509.proofs.revoked.revoked.RevokedCertificates.iter.Goals as goal

pub returns : goal.returns
returns c =
    same_listing _ _ _ _ (same_captured c.self.inside.octets _ _ c.mode.ensures c.as_slice.ensures.octets) (search rules) c.self.inside.listing.1 ∙ c.self.view_is
