use Rattle.std.proofs.Common.{refl}
use Rattle.certs_extension.proofs.of_bcder_content.InMode.{begin, next, stop, done}
use Rattle.certs_extension.proofs.identifiers.take_fields.Goals as goal

pub returns-in_err-identifier : goal.returns-in_err-identifier
returns-in_err-identifier g c = stop _ begin c.from_residual.ensures c.in_err-identifier.ensures

pub returns : goal.returns
returns g c = done (next begin c.in_ok-identifier.ensures) refl
