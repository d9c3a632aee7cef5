use Rattle.std.proofs.Common.{map, inl, ap, le_refl, arith}
use Rattle.resources_chain.proofs.WalkLemmas.{differs_at, differs_step, differs_skip, same_on}
use Rattle.resources_chain.proofs.walk.difference.Goals as goal

pub from_item-requires : goal.from_item-requires
from_item-requires g c = c.loop-first.invariant.taken_maximal

pub add_outside-requires-clause-below : goal.add_outside-requires-clause-below
add_outside-requires-clause-below g c =
    let d = differs_at c.loop-first.invariant (ap (map g.B.Block.run) c.in-Some.ensures.cases.0) in
    λ n i. d.below n _ i (inl (le_refl _, d.rest_maximal.0))

pub loop-first-preserved : goal.loop-first-preserved
loop-first-preserved g c =
    let d = differs_at c.loop-first.invariant (ap (map g.B.Block.run) c.in-Some.ensures.cases.0) in
    let s = c.from_item.ensures.same in
    differs_step d (differs_skip c.in_ok-taken.ensures.added s c.min.ensures) (same_on s c.in_ok-taken.ensures.left (omega (arith, c.min.ensures, d.rest_maximal.0)))
