use Rattle.std.proofs.Common.{◌<◌, sym, ◌∙◌, arith}
use Rattle.resources_asn.proofs.ChosenLemmas.{leaves_below, step_taken, step_passed, chosen_none}
use Rattle.resources_asn.proofs.selection.Found.find.Goals as goal

pub returns-then-takes-clause-found : goal.returns-then-takes-clause-found
returns-then-takes-clause-found c =
    let kept = c.loop-step.invariant in
    let asn = c.in-Some.step.asn in
    let bound : asn.value < 4294967296 = let h = asn.in_range in omega arith in
    kept.same ∙ step_taken c.args.choice _ _ _ _ asn.value _ _ kept.first kept.second c.in-Some.ensures (sym c.takes.ensures ∙ c.if-takes.true) bound

pub loop-step-preserved : goal.loop-step-preserved
loop-step-preserved c =
    let kept = c.loop-step.invariant in
    let step = c.in-Some.ensures in
    record {
      first = (leaves_below _ _ _ _ kept.first step.from_first).1;
      second = (leaves_below _ _ _ _ kept.second step.from_second).1;
      same = kept.same ∙ step_passed c.args.choice _ _ _ _ _ _ _ kept.first kept.second step (sym c.takes.ensures ∙ c.if-takes.false);
    }

pub returns-clause-none : goal.returns-clause-none
returns-clause-none c = c.loop-step.invariant.same ∙ chosen_none c.args.choice _ _ c.in_default.ensures.0 c.in_default.ensures.1
