use Rattle.std.proofs.Common.{◌≡◌, ◌≤◌, ◌+◌, ◌-◌, ◌*◌, ◌/◌, ◌%◌, [], ◌∷◌, inl, inr, refl, ap, ◌∙◌, arith}
use Rattle.std.proofs.lemmas.Grind.{common_steps}
use Rattle.rpki_commands.proofs.folder.lines.depth_of.Goals as goal

pub returns-then-is_end-clause-found : goal.returns-then-is_end-clause-found
returns-then-is_end-clause-found c =
    let tens = c.in-Some.tens.now in
    let low : 49 ≤ tens = grind (arith, common_steps) in
    let high : tens ≤ 57 = grind (arith, common_steps) in
    let back : tens ≡ 48 + (tens - 48) = omega arith in
    record {
      line = tens ∷ [];
      end = c.in-Some.end.now;
      whole = c.in-Some.ensures.cases.0;
      line_is = inl (omega arith, omega arith, ap (λ n. n ∷ []) back);
      end_is = c.if-is_end.ensures.0 refl;
    }

pub returns-in-Some-split_first-clause-found : goal.returns-in-Some-split_first-clause-found
returns-in-Some-split_first-clause-found c =
    let tens = c.in-Some.tens.now in
    let ones = c.in-Some-split_first.ones.now in
    let low : 49 ≤ tens = grind (arith, common_steps) in
    let high : tens ≤ 57 = grind (arith, common_steps) in
    let digit : 48 ≤ ones = grind (arith, common_steps) in
    let digit_most : ones ≤ 57 = grind (arith, common_steps) in
    let first : tens ≡ 48 + ((tens - 48) * 10 + (ones - 48)) / 10 = omega arith in
    let second : ones ≡ 48 + ((tens - 48) * 10 + (ones - 48)) % 10 = omega arith in
    record {
      line = tens ∷ ones ∷ [];
      end = c.in-Some-split_first.end.now;
      whole = c.in-Some.ensures.cases.0 ∙ ap (λ s. tens ∷ s) c.in-Some-split_first.ensures.cases.0;
      line_is = inr (omega arith, omega arith, ap (λ n. n ∷ ones ∷ []) first ∙ ap (λ n. (48 + ((tens - 48) * 10 + (ones - 48)) / 10) ∷ n ∷ []) second);
      end_is = c.if-is_end-2.ensures.0 refl;
    }
