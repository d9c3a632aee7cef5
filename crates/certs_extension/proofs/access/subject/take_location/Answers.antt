use Rattle.std.proofs.Common.{refl}
use Rattle.certs_extension.proofs.of_bcder_content.InMode.{begin, next, stop, done}
use Rattle.certs_extension.proofs.access.subject.take_location.Goals as goal

pub returns-in_err-name : goal.returns-in_err-name
returns-in_err-name g c = stop _ begin c.from_residual.ensures c.in_err-name.ensures

pub returns : goal.returns
returns g c = done (next begin c.in_ok-name.ensures) refl
