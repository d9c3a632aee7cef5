use Rattle.std.proofs.Common.{refl}
use Rattle.objects_cms.proofs.of_bcder_content.InMode.{begin, next, stop, done}
use Rattle.objects_valid.proofs.stated.take_blocks.Goals as goal

pub returns-in_err-set : goal.returns-in_err-set
returns-in_err-set g c = stop _ begin c.from_residual.ensures c.in_err-set.ensures.reads

pub returns : goal.returns
returns g c = done (next begin c.in_ok-set.ensures.reads) refl
