use Rattle.std.proofs.Common.{length, map}
use Rattle.bcder_example.specs.bcder_content.Here.{here}
use Rattle.bcder_example.proofs.of_bcder_content.InMode.{Items}
use Rattle.bcder_example.specs.Logs.{AreEntries, IsEntry, entry_fields}
use Rattle.bcder_example.proofs.lists.take_entries.Given as goal

abbrev pub invariant-loop-entries : goal.invariant-loop-entries
invariant-loop-entries g l = Items AreEntries (λ m. IsEntry) (λ xs. xs) (map entry_fields l.entries.items) (here g.S.Source.rest l.fn.cons) (here g.S.Source.rest l.cons)

abbrev pub decreases-loop-entries : goal.decreases-loop-entries
decreases-loop-entries g l = length (g.S.Source.rest l.cons.octets.source.source)
