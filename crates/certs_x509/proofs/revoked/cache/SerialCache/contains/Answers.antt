use Rattle.std.proofs.Common.{◌↔◌, Bool, IsTrue, sym, subst}
use Rattle.std.specs.Prelude.{Contains}
use Rattle.certs_x509.proofs.Serials.{place_tells}
use Rattle.certs_x509.proofs.revoked.cache.SerialCache.contains.Goals as goal

pub returns : goal.returns
returns c =
    subst (λ (b : Bool). IsTrue b ↔ Contains c.args.self.now c.args.serial) (sym c.is_some.ensures)
    (place_tells c.args.self.now c.args.serial c.position.result c.position.ensures.place)
