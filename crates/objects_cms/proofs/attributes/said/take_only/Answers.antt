use Rattle.std.proofs.Common.{refl}
use Rattle.objects_cms.proofs.of_bcder_content.InMode.{begin, done, next, stop}
use Rattle.objects_cms.proofs.attributes.said.take_only.Goals as goal

pub returns-in_err-said : goal.returns-in_err-said
returns-in_err-said g c = stop _ begin c.from_residual.ensures c.in_err-said.ensures

pub returns : goal.returns
returns g c = done (next begin c.in_ok-said.ensures) refl
