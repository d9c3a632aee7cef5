use Rattle.std.proofs.Common.{◌≤◌, map, length}
use Rattle.resources_chain.specs.Walks.{SameFrom}
use Rattle.resources_chain.proofs.place.from_item.Given as goal

abbrev pub invariant-loop-ahead : goal.invariant-loop-ahead
invariant-loop-ahead g l = SameFrom (g.B.Block.place l.fn.item) (map g.B.Block.run l.fn.blocks) (map g.B.Block.run l.rest) × (length l.rest ≤ length l.fn.blocks)

abbrev pub decreases-loop-ahead : goal.decreases-loop-ahead
decreases-loop-ahead g l = length l.rest
