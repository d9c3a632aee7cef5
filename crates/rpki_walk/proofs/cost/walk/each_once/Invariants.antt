use Rattle.std.proofs.Common.{◌≡◌, take}
use Rattle.rpki_walk.proofs.cost.walk.each_once.Given as goal

abbrev pub invariant-loop-key : goal.invariant-loop-key
invariant-loop-key l = l.all.items ≡ take l.key-index l.keys
