use Rattle.std.proofs.Common.{length}
use Rattle.bcder_octets.proofs.Cuts.{Cutting}
use Rattle.bcder_octets.proofs.pieces.join_cut.Given as goal

abbrev pub invariant-loop-piece : goal.invariant-loop-piece
invariant-loop-piece l = Cutting l.fn.octets l.cut.items l.rest l.before

abbrev pub decreases-loop-piece : goal.decreases-loop-piece
decreases-loop-piece l = length l.rest
