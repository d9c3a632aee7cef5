use Rattle.std.proofs.Common.{◌⊎◌, map, length}
use Rattle.resources_chain.specs.Sets.{InRuns}
use Rattle.resources_chain.proofs.WalkLemmas.{Joins}
use Rattle.resources_chain.proofs.walk.add_all.Given as goal

abbrev pub invariant-loop-first : goal.invariant-loop-first
invariant-loop-first g l =
    Joins (λ n. InRuns (map g.B.Block.run l.fn.blocks.items) n ⊎ InRuns (map g.B.Block.run l.others) n) (map g.B.Block.run l.blocks.items) (map g.B.Block.run l.rest)

abbrev pub decreases-loop-first : goal.decreases-loop-first
decreases-loop-first g l = length l.rest
