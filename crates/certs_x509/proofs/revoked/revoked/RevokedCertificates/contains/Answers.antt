use Rattle.std.proofs.Common.{sym, subst, ◌↔◌, IsTrue, Bool}
use Rattle.certs_x509.specs.Listed.{IsListed}
use Rattle.certs_x509.proofs.Searches.{search_is, tells_listed}
use Rattle.certs_x509.proofs.revoked.revoked.RevokedCertificates.contains.Goals as goal

pub returns : goal.returns
returns c =
    let e = search_is c.self.inside.octets c.self.inside.listing c.args.self.now c.args.serial _ _ c.has_serial.result c.self.view_is c.mode-mode.ensures c.as_slice-octets.ensures.octets c.has_serial.ensures in
    subst (λ (b : Bool). IsTrue b ↔ IsListed c.args.self.now c.args.serial) (sym e) (tells_listed c.args.serial c.args.self.now)
