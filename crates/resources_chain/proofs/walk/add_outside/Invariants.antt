use Rattle.std.proofs.Common.{map, length}
use Rattle.resources_chain.proofs.WalkLemmas.{Outside}
use Rattle.resources_chain.proofs.walk.add_outside.Given as goal

abbrev pub invariant-loop-first : goal.invariant-loop-first
invariant-loop-first g l = Outside (map g.B.Block.run l.fn.blocks.items) (map g.B.Block.run l.blocks.items) (g.B.Block.run l.fn.block) (g.B.Block.run l.piece) (map g.B.Block.run l.taken) (map g.B.Block.run l.rest)

abbrev pub decreases-loop-first : goal.decreases-loop-first
decreases-loop-first g l = length l.rest
