use Rattle.std.proofs.Common.{map, refl, sym, ap}
use Rattle.resources_chain.proofs.WalkLemmas.{merges_at, merges_left, merges_right, maximal_ascends}
use Rattle.resources_chain.proofs.walk.union.Goals as goal

pub loop-x-preserved-in-Some-first_before : goal.loop-x-preserved-in-Some-first_before
loop-x-preserved-in-Some-first_before g c =
    let left = ap (map g.B.Block.run) c.in-Some.ensures.cases.0 in
    let right = ap (map g.B.Block.run) c.in-Some-first_before.ensures.0 in
    merges_at (merges_right (merges_at c.loop-x.invariant left right) c.in_ok-add-in-Some-first_before.ensures c.min.ensures c.in-Some-first_before.ensures.1) (sym left) refl

pub loop-x-preserved : goal.loop-x-preserved
loop-x-preserved g c =
    let left = ap (map g.B.Block.run) c.in-Some.ensures.cases.0 in
    merges_left (merges_at c.loop-x.invariant left refl) c.in_ok-add-in-None.ensures c.min.ensures c.in-None.ensures

pub add_all-requires-clause-ascending : goal.add_all-requires-clause-ascending
add_all-requires-clause-ascending g c = maximal_ascends (map g.B.Block.run c.loop-x.right.now) c.loop-x.invariant.right_maximal
