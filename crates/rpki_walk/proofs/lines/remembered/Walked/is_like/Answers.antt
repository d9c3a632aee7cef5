use Rattle.std.proofs.Common.{ℕ, List, ◌≡◌, ◌↔◌, length, refl, subst, sym, ap, ◌∙◌, arith}
use Rattle.rpki_rules.specs.Words.{Mem}
use Rattle.rpki_walk.proofs.lines.remembered.Walked.is_like.Goals as goal

pub returns : goal.returns
returns c t =
    let same : length c.as_slice-own.result.now ≡ length c.args.keys.now = omega arith in
    record {
      uri_is = sym c.as_slice.ensures ∙ (c.if-not-is_same.ensures.0 refl ∙ c.as_slice-2.ensures);
      count = ap length (sym c.as_slice-own.ensures.value) ∙ same;
      held_is = c.if-not-hold_alike.ensures refl;
      agree = λ key m. subst (λ (xs : List (List ℕ)). Mem xs key ↔ Mem c.args.keys.now key) c.as_slice-own.ensures.value (c.agree.ensures t key m);
    }
