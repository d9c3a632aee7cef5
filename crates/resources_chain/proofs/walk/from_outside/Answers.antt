use Rattle.std.proofs.Common.{map, refl, sym, ap}
use Rattle.resources_chain.proofs.WalkLemmas.{no_runs, reaches_at, up_to_at, up_to_next, up_to_step, outside_none, outside_told, first_outside_at}
use Rattle.resources_chain.proofs.walk.from_outside.Goals as goal

pub returns-in_default-split_first-clause-parts : goal.returns-in_default-split_first-clause-parts
returns-in_default-split_first-clause-parts g c =
    let rest = ap (map g.B.Block.run) c.in-Some.ensures.cases.0 in
    up_to_at (up_to_next (up_to_at c.loop-first.invariant rest refl) c.from_item-left.ensures.same c.min.ensures) (sym rest) refl

pub returns-in_default-split_first-clause-stops : goal.returns-in_default-split_first-clause-stops
returns-in_default-split_first-clause-stops g c =
    let rest = ap (map g.B.Block.run) c.in-Some.ensures.cases.0 in
    let left = no_runs g.B.Block.run c.from_item-left.result.now c.in_default-split_first.ensures.cases in
    let u = up_to_next (up_to_at c.loop-first.invariant rest refl) c.from_item-left.ensures.same c.min.ensures in
    first_outside_at _ _ rest left (outside_none (up_to_at u refl left))

pub returns-then-not-is_encompassed-clause-parts :
    goal.returns-then-not-is_encompassed-clause-parts
returns-then-not-is_encompassed-clause-parts g c =
    let rest = ap (map g.B.Block.run) c.in-Some.ensures.cases.0 in
    up_to_at (up_to_next (up_to_at c.loop-first.invariant rest refl) c.from_item-left.ensures.same c.min.ensures) (sym rest) refl

pub returns-then-not-is_encompassed-clause-stops :
    goal.returns-then-not-is_encompassed-clause-stops
returns-then-not-is_encompassed-clause-stops g c =
    let rest = ap (map g.B.Block.run) c.in-Some.ensures.cases.0 in
    let left = ap (map g.B.Block.run) c.in-Some-split_first.ensures.cases.0 in
    let u = up_to_next (up_to_at c.loop-first.invariant rest refl) c.from_item-left.ensures.same c.min.ensures in
    first_outside_at _ _ rest left (outside_told (up_to_at u refl left) (reaches_at (g.B.Block.place c.min.result) c.from_item-left.ensures.reaches left) c.min.ensures c.if-not-is_encompassed.ensures)

pub loop-first-preserved : goal.loop-first-preserved
loop-first-preserved g c =
    let rest = ap (map g.B.Block.run) c.in-Some.ensures.cases.0 in
    let left = ap (map g.B.Block.run) c.in-Some-split_first.ensures.cases.0 in
    let u = up_to_next (up_to_at c.loop-first.invariant rest refl) c.from_item-left.ensures.same c.min.ensures in
    up_to_at (up_to_step (up_to_at u refl left) (c.if-not-is_encompassed.ensures.0 refl)) refl (sym left)
