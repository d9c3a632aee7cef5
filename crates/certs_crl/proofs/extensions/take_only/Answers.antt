use Rattle.std.proofs.Common.{refl}
use Rattle.certs_crl.proofs.of_bcder_content.InMode.{begin, next, stop, done}
use Rattle.certs_crl.proofs.extensions.take_only.Goals as goal

pub returns-in_err-pair : goal.returns-in_err-pair
returns-in_err-pair g c = stop _ begin c.from_residual.ensures c.in_err-pair.ensures

pub returns : goal.returns
returns g c = done (next begin c.in_ok-pair.ensures) refl
