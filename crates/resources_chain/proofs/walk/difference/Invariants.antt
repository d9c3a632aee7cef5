use Rattle.std.proofs.Common.{map, length}
use Rattle.resources_chain.proofs.WalkLemmas.{Differs}
use Rattle.resources_chain.proofs.walk.difference.Given as goal

abbrev pub invariant-loop-first : goal.invariant-loop-first
invariant-loop-first g l = Differs (map g.B.Block.run l.blocks) (map g.B.Block.run l.fn.taken) (map g.B.Block.run l.found.items) (map g.B.Block.run l.rest) (map g.B.Block.run l.taken)

abbrev pub decreases-loop-first : goal.decreases-loop-first
decreases-loop-first g l = length l.rest
