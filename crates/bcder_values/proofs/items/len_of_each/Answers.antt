use Rattle.bcder_values.proofs.Lists.{has_one_more, one_more, one_cannot, front_too_many}
use Rattle.bcder_values.proofs.of_bcder_primitive.Pieces.{stopped}
use Rattle.bcder_values.specs.bcder_primitive.Writing.{HasLength}
use Rattle.bcder_values.proofs.items.len_of_each.Goals as goal
use Rattle.std.proofs.Common.{◌≡◌, ◌+◌, ◌++◌, ◌∷◌, [], ◌∙◌, sym, ap, append_assoc, subst, arith}
use Rattle.std.proofs.lemmas.Grind.{common_steps}

pub returns-in_err-len-clause-refused : goal.returns-in_err-len-clause-refused
returns-in_err-len-clause-refused g c =
    let before = c.loop-first.invariant in
    let whole = before.whole ∙ ap (λ l. before.counted ++ l) c.in-Some.ensures.cases.0 in
    let refused = one_cannot (λ x. g.E.Encodes.trees c.args.by.now x c.args.mode) (λ x. g.E.Encodes.writes c.args.by.now x c.args.mode) before.counted c.in-Some.first.now c.in-Some.others.now _ c.in_err-len.ensures.refused in
    stopped _ _ _ c.from_residual.ensures (rw whole refused)

pub returns-in-None-clause-refused : goal.returns-in-None-clause-refused
returns-in-None-clause-refused g c =
    let before = c.loop-first.invariant in
    let whole = before.whole ∙ ap (λ l. before.counted ++ l) c.in-Some.ensures.cases.0 in
    rw whole (front_too_many (λ x. g.E.Encodes.writes c.args.by.now x c.args.mode) before.counted c.in-Some.first.now c.in-Some.others.now before.one c.in_ok-len.ensures.one before.long c.in_ok-len.ensures.len (grind (arith, common_steps)))

pub loop-first-preserved : goal.loop-first-preserved
loop-first-preserved g c =
    let before = c.loop-first.invariant in
    let sum : c.in-Some-checked_add.total ≡ c.loop-first.sum + c.in_ok-len.len = grind (arith, common_steps) in
    record {
      counted = before.counted ++ (c.in-Some.first.now ∷ []);
      whole = before.whole ∙ ap (λ l. before.counted ++ l) c.in-Some.ensures.cases.0 ∙ sym (append_assoc before.counted (c.in-Some.first.now ∷ []) c.in-Some.others.now);
      long = subst (HasLength _) (sym sum) (has_one_more (λ x. g.E.Encodes.writes c.args.by.now x c.args.mode) before.counted c.in-Some.first.now before.long c.in_ok-len.ensures.len);
      one = one_more (λ x. g.E.Encodes.writes c.args.by.now x c.args.mode) before.counted c.in-Some.first.now before.one c.in_ok-len.ensures.one;
    }
