use Rattle.std.proofs.Common.{◌≡◌, take}
use Rattle.rpki_walk.proofs.lines.walk.copy_of.Given as goal

abbrev pub invariant-loop-one : goal.invariant-loop-one
invariant-loop-one l = l.all.items ≡ take l.one-index l.list
