use Rattle.std.proofs.Common.{length}
use Rattle.bcder_octets.proofs.Walk.{Going}
use Rattle.bcder_octets.proofs.pieces.join.Given as goal

abbrev pub invariant-loop-piece : goal.invariant-loop-piece
invariant-loop-piece l = Going l.fn.octets l.out.items l.rest

abbrev pub decreases-loop-piece : goal.decreases-loop-piece
decreases-loop-piece l = length l.rest
