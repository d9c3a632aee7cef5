use Rattle.std.proofs.Common.{length, map}
use Rattle.objects_payload.proofs.of_bcder_content.InMode.{Items}
use Rattle.objects_payload.specs.bcder_content.Here.{here}
use Rattle.objects.specs.Checklists.{IsCheckedFile}
use Rattle.objects.specs.ChecklistEntries.{AreEntries, checked}
use Rattle.objects.proofs.rsc.checklist.entry.take_entries.Given as goal

abbrev pub invariant-loop-entries : goal.invariant-loop-entries
invariant-loop-entries g l = Items AreEntries IsCheckedFile (λ xs. xs) (map checked l.entries.items) (here g.S.Source.rest l.fn.cons) (here g.S.Source.rest l.cons)

abbrev pub decreases-loop-entries : goal.decreases-loop-entries
decreases-loop-entries g l = length (g.S.Source.rest l.cons.octets.source.source)
