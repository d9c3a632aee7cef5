use Rattle.certs_x509.proofs.Serials.{collected_are}
use Rattle.certs_x509.proofs.revoked.revoked.RevokedCertificates.serials.Goals as goal

pub returns : goal.returns
returns c =
    collected_are (λ v. v.items) c.self.inside.octets c.self.inside.listing c.args.self.now _ _ c.serials_in.result c.self.view_is c.mode-mode.ensures c.as_slice-octets.ensures.octets c.serials_in.ensures
