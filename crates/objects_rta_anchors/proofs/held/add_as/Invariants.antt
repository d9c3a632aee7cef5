use Rattle.std.proofs.Common.{◌≡◌, ◌++◌, length}
use Rattle.objects_rta_anchors.proofs.held.add_as.Given as goal

abbrev pub invariant-loop-block : goal.invariant-loop-block
invariant-loop-block l = l.all ++ l.blocks ≡ l.fn.all ++ l.held

abbrev pub decreases-loop-block : goal.decreases-loop-block
decreases-loop-block l = length l.blocks
