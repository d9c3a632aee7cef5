use Rattle.std.proofs.Common.{◌+◌, ◌⊎◌, map, length}
use Rattle.resources_chain.specs.Sets.{InRuns, InBoth}
use Rattle.resources_chain.proofs.WalkLemmas.{Meets}
use Rattle.resources_chain.proofs.walk.add_all_common.Given as goal

abbrev pub invariant-loop-x : goal.invariant-loop-x
invariant-loop-x g l =
    Meets (λ n. InRuns (map g.B.Block.run l.fn.blocks.items) n ⊎ InBoth (map g.B.Block.run l.one) (map g.B.Block.run l.other) n) (map g.B.Block.run l.blocks.items) (map g.B.Block.run l.left) (map g.B.Block.run l.right)

abbrev pub decreases-loop-x : goal.decreases-loop-x
decreases-loop-x g l = length l.left + length l.right
