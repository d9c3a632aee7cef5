use Rattle.std.proofs.Common.{◌∙◌, refl, rules}
use Rattle.certs_x509.specs.Listed.{captured}
use Rattle.certs_x509.proofs.Splits.{same_listing}
use Rattle.certs_x509.proofs.revoked.iter.RevokedCertificatesIter.again.Goals as goal

pub returns : goal.returns
returns c =
    same_listing (captured c.self.inside.mode c.self.inside.octets.now) (captured c.self.inside.mode c.self.inside.octets.now) _ _ refl (search rules) c.self.inside.listing.1 ∙ c.self.view_is
