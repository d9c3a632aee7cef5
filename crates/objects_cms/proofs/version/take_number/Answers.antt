use Rattle.std.proofs.Common.{refl}
use Rattle.objects_cms.proofs.of_bcder_content.InMode.{begin, next, stop, done}
use Rattle.objects_cms.proofs.version.take_number.Goals as goal

pub returns-in_err-number-clause-reads : goal.returns-in_err-number-clause-reads
returns-in_err-number-clause-reads g c = stop _ begin c.from_residual.ensures c.in_err-number.ensures.reads

pub returns-clause-reads : goal.returns-clause-reads
returns-clause-reads g c = done (next begin c.in_ok-number.ensures.reads) refl
