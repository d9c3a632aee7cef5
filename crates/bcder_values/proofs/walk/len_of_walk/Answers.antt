use Rattle.bcder_values.proofs.Lists.{has_one_more, one_cannot, front_too_many}
use Rattle.bcder_values.proofs.of_bcder_primitive.Pieces.{stopped}
use Rattle.bcder_values.specs.Lists.{all_one}
use Rattle.bcder_values.specs.bcder_primitive.Writing.{HasLength}
use Rattle.bcder_values.proofs.walk.len_of_walk.Goals as goal
use Rattle.std.proofs.Common.{◌≡◌, ◌+◌, ◌++◌, ◌∷◌, [], ◌∙◌, refl, sym, ap, append_assoc, subst, arith}
use Rattle.std.proofs.lemmas.Grind.{common_steps}

pub returns-in_err-len-clause-refused : goal.returns-in_err-len-clause-refused
returns-in_err-len-clause-refused g c =
    let before = c.loop-item.invariant in
    let whole = before.whole ∙ ap (λ l. before.counted ++ l) c.in-Some.ensures in
    let refused = one_cannot (λ v. g.T.Item.Values.trees v c.args.mode) (λ v. g.T.Item.Values.writes v c.args.mode) before.counted c.in-Some.item (g.T.Walk.items c.next.new.self) _ c.in_err-len.ensures.refused in
    stopped _ _ _ c.from_residual.ensures (rw whole refused)

pub returns-in-None-clause-refused : goal.returns-in-None-clause-refused
returns-in-None-clause-refused g c =
    let before = c.loop-item.invariant in
    let whole = before.whole ∙ ap (λ l. before.counted ++ l) c.in-Some.ensures in
    rw whole (front_too_many (λ v. g.T.Item.Values.writes v c.args.mode) before.counted c.in-Some.item (g.T.Walk.items c.next.new.self) (all_one (λ v. g.met.T.Item.Values.one_text v c.args.mode) before.counted) (g.met.T.Item.Values.one_text c.in-Some.item c.args.mode) before.long c.in_ok-len.ensures.len (grind (arith, common_steps)))

pub loop-item-init : goal.loop-item-init
loop-item-init g c = record {
  counted = [];
  whole = sym c.again-rest.ensures;
  long = record { text = []; is = refl; long = refl };
}

pub loop-item-preserved : goal.loop-item-preserved
loop-item-preserved g c =
    let before = c.loop-item.invariant in
    let sum : c.in-Some-checked_add.total ≡ c.loop-item.sum + c.in_ok-len.len = grind (arith, common_steps) in
    record {
      counted = before.counted ++ (c.in-Some.item ∷ []);
      whole = before.whole ∙ ap (λ l. before.counted ++ l) c.in-Some.ensures ∙ sym (append_assoc before.counted (c.in-Some.item ∷ []) (g.T.Walk.items c.next.new.self));
      long = subst (HasLength _) (sym sum) (has_one_more (λ v. g.T.Item.Values.writes v c.args.mode) before.counted c.in-Some.item before.long c.in_ok-len.ensures.len);
    }
