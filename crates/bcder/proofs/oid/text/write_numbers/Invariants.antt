use Rattle.std.proofs.Common.{◌∷◌, take}
use Rattle.bcder.specs.Subidentifiers.{IsShortest, InTurn}
use Rattle.bcder.proofs.oid.text.write_numbers.Given as goal

abbrev pub invariant-loop-number : goal.invariant-loop-number
invariant-loop-number l = InTurn IsShortest l.octets.items (l.root ∷ take l.number-index l.others)
