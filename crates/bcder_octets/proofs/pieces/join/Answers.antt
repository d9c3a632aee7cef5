use Rattle.bcder_octets.proofs.Walk.{going_next, going_end}
use Rattle.bcder_octets.proofs.pieces.join.Goals as goal

pub loop-piece-preserved : goal.loop-piece-preserved
loop-piece-preserved c = going_next c.loop-piece.invariant c.in-Some.ensures.found c.in_ok-extend_from_slice.ensures.items

pub returns : goal.returns
returns c = going_end c.loop-piece.invariant c.in_default.ensures.none
