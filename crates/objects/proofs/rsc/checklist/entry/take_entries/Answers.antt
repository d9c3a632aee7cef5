use Rattle.std.proofs.Common.{refl}
use Rattle.objects_payload.proofs.of_bcder_content.Forests.{there, absent}
use Rattle.objects_payload.proofs.of_bcder_content.InMode.{items_next_as, items_end, items_stop}
use Rattle.objects.specs.ChecklistEntries.{checked}
use Rattle.objects.proofs.OneChecklist.{entry_tagged}
use Rattle.objects.proofs.rsc.checklist.entry.take_entries.Goals as goal

pub returns-in_err-entry : goal.returns-in_err-entry
returns-in_err-entry g c = items_stop _ _ c.loop-entries.invariant c.from_residual.ensures c.in_err-entry.ensures

pub loop-entries-preserved : goal.loop-entries-preserved
loop-entries-preserved g c = items_next_as checked _ c.loop-entries.invariant (there _ _ _ c.in-Some.is c.in_ok-entry.ensures) c.in_ok-push.ensures.items

pub returns : goal.returns
returns g c = items_end c.loop-entries.invariant entry_tagged (absent _ _ _ c.in_default.is c.in_ok-entry.ensures) refl
