use Rattle.std.proofs.Common.{map, length}
use Rattle.resources_chain.specs.Walks.{InsideUpTo}
use Rattle.resources_chain.proofs.walk.from_outside.Given as goal

abbrev pub invariant-loop-first : goal.invariant-loop-first
invariant-loop-first g l = InsideUpTo (map g.B.Block.run l.blocks) (map g.B.Block.run l.others) (map g.B.Block.run l.rest) (map g.B.Block.run l.left)

abbrev pub decreases-loop-first : goal.decreases-loop-first
decreases-loop-first g l = length l.rest
