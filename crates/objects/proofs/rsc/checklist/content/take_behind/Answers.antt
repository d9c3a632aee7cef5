use Rattle.std.proofs.Common.{refl}
use Rattle.objects_payload.proofs.of_bcder_content.InMode.{begin, next, next_such, stop, stop_such, unfit_such, done}
use Rattle.objects.proofs.OneChecklist.{list_one, said_no}
use Rattle.objects.proofs.rsc.checklist.content.take_behind.Goals as goal

pub returns-in_err-algorithm : goal.returns-in_err-algorithm
returns-in_err-algorithm g c = stop _ begin c.from_residual.ensures c.in_err-algorithm.ensures.reads

pub returns-in_err-files : goal.returns-in_err-files
returns-in_err-files g c = stop_such _ (next begin c.in_ok-algorithm.ensures.reads) c.from_residual-in_err-files.ensures c.in_err-files.ensures

pub returns-then-not-has_some : goal.returns-then-not-has_some
returns-then-not-has_some g c = unfit_such (next begin c.in_ok-algorithm.ensures.reads) list_one c.in_ok-files.ensures (said_no c.has_some.ensures c.if-not-has_some.true)

pub returns : goal.returns
returns g c = done (next_such (next begin c.in_ok-algorithm.ensures.reads) c.in_ok-files.ensures (c.has_some.ensures.0 c.if-not-has_some.false)) refl
