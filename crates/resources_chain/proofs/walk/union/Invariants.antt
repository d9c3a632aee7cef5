use Rattle.std.proofs.Common.{◌+◌, map, length}
use Rattle.resources_chain.specs.Sets.{InEither}
use Rattle.resources_chain.proofs.WalkLemmas.{Merges}
use Rattle.resources_chain.proofs.walk.union.Given as goal

abbrev pub invariant-loop-x : goal.invariant-loop-x
invariant-loop-x g l =
    Merges (InEither (map g.B.Block.run l.one) (map g.B.Block.run l.other)) (map g.B.Block.run l.found.items) (map g.B.Block.run l.left) (map g.B.Block.run l.right)

abbrev pub decreases-loop-x : goal.decreases-loop-x
decreases-loop-x g l = length l.left + length l.right
