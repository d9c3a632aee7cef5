use Rattle.std.proofs.Common.{◌≡◌, ◌⊎◌, length}
use Rattle.rpki_commands.specs.Verdicts.{StartsWithVerdict}
use Rattle.rpki_commands.proofs.VerdictLines.{Reading}
use Rattle.rpki_commands.proofs.folder.verdicts.verdicts_of.Given as goal

abbrev pub invariant-loop-rest : goal.invariant-loop-rest
invariant-loop-rest l = record {
  reading : Reading l.text l.rest l.verdicts.items;
  begun : (l.rest ≡ l.text) ⊎ StartsWithVerdict l.text;
}

abbrev pub decreases-loop-rest : goal.decreases-loop-rest
decreases-loop-rest l = length l.rest
