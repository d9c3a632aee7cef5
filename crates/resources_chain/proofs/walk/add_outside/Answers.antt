use Rattle.std.proofs.Common.{map, ap}
use Rattle.resources_chain.proofs.WalkLemmas.{begin_below, outside_at, outside_ends, outside_goes_on}
use Rattle.resources_chain.proofs.walk.add_outside.Goals as goal

pub returns-in_default-part_behind-clause-added : goal.returns-in_default-part_behind-clause-added
returns-in_default-part_behind-clause-added g c =
    outside_ends (outside_at c.loop-first.invariant (ap (map g.B.Block.run) c.in-Some.ensures.cases.0)) c.in_ok-add_before.ensures c.min.ensures c.in_default-part_behind.ensures c.max.ensures

pub loop-first-preserved : goal.loop-first-preserved
loop-first-preserved g c =
    let part = c.in-Some-part_behind.ensures in
    outside_goes_on (outside_at c.loop-first.invariant (ap (map g.B.Block.run) c.in-Some.ensures.cases.0)) c.in_ok-add_before.ensures c.min.ensures part.0 c.max.ensures part.1 (g.met.B.Block.run_within c.in-Some-part_behind.part).0

pub add-requires-clause-order : goal.add-requires-clause-order
add-requires-clause-order g c = begin_below _ _ c.loop-first.invariant.maximal c.loop-first.invariant.below
