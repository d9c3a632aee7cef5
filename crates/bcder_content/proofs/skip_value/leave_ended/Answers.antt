use Rattle.std.proofs.Common.{◌≡◌, ◌-◌, List, [], ◌∷◌, ◌++◌, length, take, sym, ap, ◌∙◌, subst, arith}
use mathlib.Core.List.{reverse}
use Rattle.bcder_source.specs.Limits.{view}
use Rattle.bcder_source.specs.Views.{View}
use Rattle.bcder_content.specs.declared.ending.Span.{Span}
use Rattle.bcder_content.specs.SkipLevels.{Value, Wants, Reaches}
use Rattle.bcder_content.proofs.SkipSteps.{last_of, both_steps, out, next, closes_shorter}
use Rattle.bcder_content.proofs.skip_value.leave_ended.Goals as goal

pub returns-then-not-branch-clause-reached : goal.returns-then-not-branch-clause-reached
returns-then-not-branch-clause-reached g c = λ m final. subst (λ (v : View). Reaches (Wants m (reverse c.args.spans.now.items) final (view g.S.Source.rest c.args.source.now)) [] (Wants m (reverse c.loop-span.spans.items) final v)) (sym (c.in_ok-leave.ensures.kept c.if-not-branch.true)) (c.loop-span.invariant.reached m final)

pub returns-then-not-branch-clause-goes_on : goal.returns-then-not-branch-clause-goes_on
returns-then-not-branch-clause-goes_on g c = λ _ m final.
    let old = c.loop-span.spans.items in
    let f = c.in-Some.span.now in
    let e : old ≡ take (length old - 1) old ++ (f ∷ []) = last_of old c.deref.result.now f c.deref.ensures c.in-Some.ensures.value in
    subst (λ (v : View). Reaches (Wants m (reverse c.loop-span.spans.items) final v) [] (Value m (length c.loop-span.spans.items) (Wants m (reverse c.loop-span.spans.items) final) v)) (sym (c.in_ok-leave.ensures.kept c.if-not-branch.true)) (next m final (take (length old - 1) old) old f e (view g.S.Source.rest c.loop-span.source) (c.in_ok-leave.ensures.no c.if-not-branch.true))

pub loop-span-preserved : goal.loop-span-preserved
loop-span-preserved g c =
    let old = c.loop-span.spans.items in
    let f = c.in-Some.span.now in
    let e : old ≡ take (length old - 1) old ++ (f ∷ []) = last_of old c.deref.result.now f c.deref.ensures c.in-Some.ensures.value in
    let p : old ≡ c.pop.new.self.items ++ (f ∷ []) = e ∙ ap (λ (z : List Span). z ++ (f ∷ [])) (sym c.pop.ensures.rest) in
    let closes = c.in_ok-leave.ensures.yes c.if-not-branch.false in
    record {
      reached = λ m final. both_steps (c.loop-span.invariant.reached m final) (out m final c.pop.new.self.items old f p (view g.S.Source.rest c.loop-span.source) (view g.S.Source.rest c.leave.new.source) closes);
      shorter = omega (arith, c.loop-span.invariant.shorter, closes_shorter f (view g.S.Source.rest c.loop-span.source) (view g.S.Source.rest c.leave.new.source) closes);
    }
