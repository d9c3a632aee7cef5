use Rattle.std.proofs.Common.{◌≡◌, inr, [], length, sym, ap, subst, arith}
use Rattle.std.proofs.lemmas.Grind.{common_steps}
use Rattle.std.proofs.lemmas.List.{nil_from_length}
use Rattle.rpki_commands.proofs.VerdictLines.{Reading, reading_next, reading_end, reading_stop, started, verdict_shorter}
use Rattle.rpki_commands.proofs.Lacking.{memory_then}
use Rattle.rpki_commands.proofs.folder.verdicts.verdicts_of.Goals as goal

pub loop-rest-smaller : goal.loop-rest-smaller
loop-rest-smaller c = verdict_shorter c.loop-rest.rest.now c.in-Some.behind.now c.in-Some.verdict c.in-Some.ensures.found

pub loop-rest-preserved : goal.loop-rest-preserved
loop-rest-preserved c = record {
  reading = subst (Reading c.args.text.now c.in-Some.behind.now) (sym c.in_ok-push.ensures.items) (reading_next c.loop-rest.invariant.reading c.in-Some.ensures.found);
  begun = inr (started c.loop-rest.invariant.begun c.in-Some.ensures.found);
}

pub returns-in_err-push-clause-memory : goal.returns-in_err-push-clause-memory
returns-in_err-push-clause-memory c = memory_then c.from_residual.result (started c.loop-rest.invariant.begun c.in-Some.ensures.found)

pub returns-in_default-clause-refused : goal.returns-in_default-clause-refused
returns-in_default-clause-refused c =
    let some = λ (e : c.loop-rest.rest.now ≡ []). let n = ap length e in absurd (grind (arith, common_steps)) in
    reading_stop c.loop-rest.invariant.reading some c.in_default.ensures.none

pub returns-clause-ok : goal.returns-clause-ok
returns-clause-ok c =
    let none : length c.loop-rest.rest.now ≡ 0 = grind (arith, common_steps) in
    reading_end c.loop-rest.invariant.reading (nil_from_length c.loop-rest.rest.now none)
