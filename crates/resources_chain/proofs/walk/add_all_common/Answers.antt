use Rattle.std.proofs.Common.{◌≤◌, map, inl, refl, sym, ap, arith}
use Rattle.resources_chain.proofs.RunLemmas.{not_before}
use Rattle.resources_chain.proofs.WalkLemmas.{no_runs, meets_at, meets_from, meets_left_from, meets_left, meets_right, meets_end}
use Rattle.resources_chain.proofs.walk.add_all_common.Goals as goal

pub add_common-requires-clause-below : goal.add_common-requires-clause-below
add_common-requires-clause-below g c =
    let left = ap (map g.B.Block.run) c.in-Some.ensures.cases.0 in
    let m = meets_at (meets_from (meets_at c.loop-x.invariant left refl) c.from_item-right.ensures.same c.min.ensures) refl (ap (map g.B.Block.run) c.in-Some-split_first.ensures.cases.0) in
    λ p n i j k. m.below p n i (inl j) (inl k)

pub returns-in_default-split_first : goal.returns-in_default-split_first
returns-in_default-split_first g c =
    let run = g.B.Block.run in
    let left = ap (map run) c.in-Some.ensures.cases.0 in
    let none = no_runs run c.from_item-right.result.now c.in_default-split_first.ensures.cases in
    let m = meets_at (meets_from (meets_at c.loop-x.invariant left refl) c.from_item-right.ensures.same c.min.ensures) refl none in
    meets_end (map run c.args.blocks.now.items) (map run c.args.one.now) (map run c.args.other.now) m (λ n i j. j)

pub loop-x-preserved-then-comes_before : goal.loop-x-preserved-then-comes_before
loop-x-preserved-then-comes_before g c =
    let run = g.B.Block.run in
    let left = ap (map run) c.in-Some.ensures.cases.0 in
    let right = ap (map run) c.in-Some-split_first.ensures.cases.0 in
    let order : (run c.in-Some.x.now).last ≤ (run c.in-Some-split_first.y.now).last = omega (arith, c.max.ensures, c.max-in-Some.ensures, c.if-comes_before.ensures.0 refl) in
    let m = meets_at (meets_from (meets_at c.loop-x.invariant left refl) c.from_item-right.ensures.same c.min.ensures) refl right in
    meets_at (meets_left_from (meets_left m c.in_ok-add_common.ensures order) c.from_item-left.ensures.same c.min-then-comes_before.ensures) refl (sym right)

pub loop-x-preserved : goal.loop-x-preserved
loop-x-preserved g c =
    let run = g.B.Block.run in
    let left = ap (map run) c.in-Some.ensures.cases.0 in
    let order : (run c.in-Some-split_first.y.now).last ≤ (run c.in-Some.x.now).last = omega (arith, c.max.ensures, c.max-in-Some.ensures, not_before c.if-comes_before.ensures) in
    let m = meets_at (meets_from (meets_at c.loop-x.invariant left refl) c.from_item-right.ensures.same c.min.ensures) refl (ap (map run) c.in-Some-split_first.ensures.cases.0) in
    meets_at (meets_right m c.in_ok-add_common.ensures order) (sym left) refl
