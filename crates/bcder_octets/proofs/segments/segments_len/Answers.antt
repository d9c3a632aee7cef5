use Rattle.std.proofs.Common.{◌≡◌, ◌+◌, ◌++◌, ◌∷◌, [], ◌∙◌, sym, ap, append_assoc, append-nil, subst, arith}
use Rattle.std.proofs.lemmas.Grind.{common_steps}
use Rattle.bcder_values.proofs.Lists.{has_one_more, one_cannot, front_too_many}
use Rattle.bcder_octets.proofs.of_bcder_primitive.Pieces.{stopped}
use Rattle.bcder_values.specs.Lists.{all_one}
use Rattle.bcder_values.specs.Plains.{plain_one}
use Rattle.bcder_octets.specs.bcder_primitive.Simple.{one_string}
use Rattle.bcder_octets.specs.bcder_primitive.Writing.{HasLength}
use Rattle.bcder_octets.specs.Segments.{segments, IsSegment, WritesSegment}
use Rattle.bcder_octets.proofs.segments.segments_len.Goals as goal

pub returns-in_err-len-clause-refused : goal.returns-in_err-len-clause-refused
returns-in_err-len-clause-refused c =
    let before = c.loop-first.invariant in
    let whole = before.whole ∙ ap (λ l. before.counted ++ l) c.in-Some.ensures.found in
    let refused = one_cannot IsSegment (WritesSegment c.args.mode) before.counted c.in-Some.first.now (segments c.in-Some.others.now) _ c.in_err-len.ensures.refused in
    stopped _ _ _ c.from_residual.ensures (rw whole refused)

pub returns-in-None-clause-refused : goal.returns-in-None-clause-refused
returns-in-None-clause-refused c =
    let before = c.loop-first.invariant in
    let whole = before.whole ∙ ap (λ l. before.counted ++ l) c.in-Some.ensures.found in
    rw whole (front_too_many (WritesSegment c.args.mode) before.counted c.in-Some.first.now (segments c.in-Some.others.now) (all_one (λ s. plain_one c.args.mode (one_string s)) before.counted) (plain_one c.args.mode (one_string c.in-Some.first.now)) before.long c.in_ok-len.ensures.len (grind (arith, common_steps)))

pub loop-first-preserved : goal.loop-first-preserved
loop-first-preserved c =
    let before = c.loop-first.invariant in
    let sum : c.in-Some-checked_add.total ≡ c.loop-first.sum + c.in_ok-len.len = grind (arith, common_steps) in
    record {
      counted = before.counted ++ (c.in-Some.first.now ∷ []);
      whole = before.whole ∙ ap (λ l. before.counted ++ l) c.in-Some.ensures.found ∙ sym (append_assoc before.counted (c.in-Some.first.now ∷ []) (segments c.in-Some.others.now));
      long = subst (HasLength _) (sym sum) (has_one_more (WritesSegment c.args.mode) before.counted c.in-Some.first.now before.long c.in_ok-len.ensures.len);
    }

pub returns-clause-len : goal.returns-clause-len
returns-clause-len c =
    let before = c.loop-first.invariant in
    let whole = before.whole ∙ ap (λ l. before.counted ++ l) c.in_default.ensures.none ∙ append-nil before.counted in
    rw whole before.long
