use Rattle.objects_payload.proofs.of_bcder_content.InMode.{inside}
use Rattle.objects.specs.ChecklistEntries.{AreEntries}
use Rattle.objects.proofs.rsc.checklist.entry.take_list.Goals as goal

pub returns : goal.returns
returns g c = inside {P = AreEntries} (record { each = λ p q r h. h }) c.take_sequence.ensures.ran
