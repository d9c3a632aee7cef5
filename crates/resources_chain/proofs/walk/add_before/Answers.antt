use Rattle.std.proofs.Common.{arith}
use Rattle.resources_chain.proofs.WalkLemmas.{begin_below}
use Rattle.resources_chain.proofs.walk.add_before.Goals as goal

pub add-requires-clause-order : goal.add-requires-clause-order
add-requires-clause-order g c = begin_below _ _ c.requires.maximal (λ n i. omega (arith, c.requires.below n i, c.in-Some.ensures.0))
