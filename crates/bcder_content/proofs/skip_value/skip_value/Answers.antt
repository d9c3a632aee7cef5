use Rattle.std.proofs.Common.{ℕ, Result, Ok, Err, subst, of_calls}
use Rattle.bcder_source.specs.declared.error.ContentError.{ContentError}
use Rattle.bcder_source.specs.Limits.{view}
use Rattle.bcder_content.proofs.SkipSteps.{under_first, under_none, under_refused, under_done, under_next, error_weaker, error_is}
use Rattle.bcder_content.proofs.skip_value.skip_value.Goals as goal

pub loop-start-init : goal.loop-start-init
loop-start-init g c = record {
  callable = c.requires.callable;
  under = under_first c.args.mode (goal.F-step g) c.args.op (view g.S.Source.rest c.args.source.now) c.new-spans.result.items c.new-spans.ensures.items;
}

pub returns-in-Err-clause-refused : goal.returns-in-Err-clause-refused
returns-in-Err-clause-refused g c = error_weaker c.in-Err.error _ _ (λ error none. under_none c.args.mode (goal.F-step g) c.args.op (view g.S.Source.rest c.args.source.now) c.loop-start.spans.items (view g.S.Source.rest c.loop-start.source) c.loop-start.op c.loop-start.invariant.under none error) c.in-Err.ensures.none

pub returns-in-Err-op-clause-refused : goal.returns-in-Err-op-clause-refused
returns-in-Err-op-clause-refused g c =
    let step = goal.F-step g in
    let answer = subst (λ (r : Result (Unit {0}) ContentError). step c.loop-start.op c.in-Ok.start.tag c.in-Ok.start.constructed c.len.result r c.op.new.self) c.in-Err-op.is c.op.ensures in
    let told = subst (λ (n : ℕ). step c.loop-start.op c.in-Ok.start.tag c.in-Ok.start.constructed n (Err c.in-Err-op.error) c.op.new.self) c.len.ensures.value answer in
    error_is c.content_err.result c.in-Err-op.error _ _ c.content_err.ensures (under_refused c.args.mode (goal.F-step g) c.args.op (view g.S.Source.rest c.args.source.now) c.loop-start.spans.items (view g.S.Source.rest c.loop-start.source) (view g.S.Source.rest c.open.new.source) c.loop-start.op c.op.new.self c.in-Ok.start.tag c.in-Ok.start.constructed c.in-Ok.start.span c.in-Err-op.error c.loop-start.invariant.under c.in-Ok.ensures.found told)

pub returns-in-Err-descend-clause-refused : goal.returns-in-Err-descend-clause-refused
returns-in-Err-descend-clause-refused g c = error_weaker c.in-Err-descend.error _ _ (λ error lacks. under_none c.args.mode (goal.F-step g) c.args.op (view g.S.Source.rest c.args.source.now) c.loop-start.spans.items (view g.S.Source.rest c.loop-start.source) c.loop-start.op c.loop-start.invariant.under (lacks c.args.mode (view g.S.Source.rest c.loop-start.source) c.in-Ok.ensures.found) error) c.in-Err-descend.ensures.cut

pub returns-in-Ok-true-clause-skipped : goal.returns-in-Ok-true-clause-skipped
returns-in-Ok-true-clause-skipped g c =
    let step = goal.F-step g in
    let answer = subst (λ (r : Result (Unit {0}) ContentError). step c.loop-start.op c.in-Ok.start.tag c.in-Ok.start.constructed c.len.result r c.op.new.self) c.in_default.is c.op.ensures in
    let told = subst (λ (n : ℕ). step c.loop-start.op c.in-Ok.start.tag c.in-Ok.start.constructed n (Ok tt) c.op.new.self) c.len.ensures.value answer in
    under_done c.args.mode (goal.F-step g) c.args.op (view g.S.Source.rest c.args.source.now) c.loop-start.spans.items c.descend.new.spans.items c.leave_ended.new.spans.items (view g.S.Source.rest c.loop-start.source) (view g.S.Source.rest c.descend.new.source) (view g.S.Source.rest c.leave_ended.new.source) c.loop-start.op c.op.new.self c.in-Ok.start.tag c.in-Ok.start.constructed c.loop-start.invariant.under told (λ final. c.in_default-descend.ensures.reached c.args.mode (view g.S.Source.rest c.loop-start.source) final c.in-Ok.ensures.found) (λ final. c.in-Ok-true.ensures.reached c.args.mode final) (c.in-Ok-true.ensures.all c.in-Ok-true.field-0-test)

pub loop-start-preserved : goal.loop-start-preserved
loop-start-preserved g c =
    let step = goal.F-step g in
    let answer = subst (λ (r : Result (Unit {0}) ContentError). step c.loop-start.op c.in-Ok.start.tag c.in-Ok.start.constructed c.len.result r c.op.new.self) c.in_default.is c.op.ensures in
    let told = subst (λ (n : ℕ). step c.loop-start.op c.in-Ok.start.tag c.in-Ok.start.constructed n (Ok tt) c.op.new.self) c.len.ensures.value answer in
    record {
      callable = search of_calls;
      under = under_next c.args.mode (goal.F-step g) c.args.op (view g.S.Source.rest c.args.source.now) c.loop-start.spans.items c.descend.new.spans.items c.leave_ended.new.spans.items (view g.S.Source.rest c.loop-start.source) (view g.S.Source.rest c.descend.new.source) (view g.S.Source.rest c.leave_ended.new.source) c.loop-start.op c.op.new.self c.in-Ok.start.tag c.in-Ok.start.constructed c.loop-start.invariant.under told (λ final. c.in_default-descend.ensures.reached c.args.mode (view g.S.Source.rest c.loop-start.source) final c.in-Ok.ensures.found) (λ final. c.in-Ok-false.ensures.reached c.args.mode final) (λ final. c.in-Ok-false.ensures.goes_on c.in-Ok-false.field-0-test c.args.mode final);
    }
