use Rattle.std.proofs.Common.{Err, refl}
use Rattle.objects_payload.proofs.of_bcder_content.InMode.{begin, next, next_opt, stop, stop_opt, done}
use Rattle.objects.proofs.OneChecklist.{name_tagged}
use Rattle.objects.proofs.rsc.checklist.entry.take_fields.Goals as goal

pub returns-in_err-name : goal.returns-in_err-name
returns-in_err-name g c = stop_opt _ begin c.from_residual.ensures c.in_err-name.ensures.reads

pub returns-in-Ok : goal.returns-in-Ok
returns-in-Ok g c = done (next (next_opt _ begin name_tagged c.in_ok-name.ensures.reads) c.in-Ok.ensures.reads) refl

pub returns-in-Err : goal.returns-in-Err
returns-in-Err g c = stop {r = Err c.in-Err.error} _ (next_opt _ begin name_tagged c.in_ok-name.ensures.reads) (refl, refl) c.in-Err.ensures.reads
