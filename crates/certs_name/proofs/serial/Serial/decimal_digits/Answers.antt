use Rattle.std.proofs.Common.{◌≢◌, ◌<◌, ◌^◌, ◌-◌, subst, ℕ, inl, inr, refl, sym, ◌∙◌, append-nil, length-set, arith}
use Rattle.certs_name.proofs.Digits.{first_digit, has_place, known_below, less_place, more_digits, place_left}
use Rattle.certs_name.proofs.serial.Serial.decimal_digits.Goals as goal

pub loop-front-init : goal.loop-front-init
loop-front-init c = record { count = refl; text = sym (append-nil _); place = inl refl; some = omega arith; bound = omega arith; below = inl refl }

pub returns-then-is_zero-clause-digits : goal.returns-then-is_zero-clause-digits
returns-then-is_zero-clause-digits c =
    let l = c.loop-front.invariant in
    let s = c.split_last-front.ensures in
    first_digit c.args.self c.loop-front.rest c.split_last-front.result.0 c.split_last-front.result.1 c.loop-front.begin c.loop-front.digits
    l.text l.some (omega (arith, l.count, l.bound)) s.front s.last (c.is_zero.ensures.0 c.if-is_zero.true)

pub returns-then-is_zero-clause-below : goal.returns-then-is_zero-clause-below
returns-then-is_zero-clause-below c = known_below c.args.self c.loop-front.rest c.loop-front.invariant.below c.split_last-front.ensures.below

pub loop-front-preserved : goal.loop-front-preserved
loop-front-preserved c =
    let l = c.loop-front.invariant in
    let s = c.split_last-front.ensures in
    let rest = c.loop-front.rest in
    let goes : c.split_last-front.result.0 ≢ 0 = λ e. let yes = c.is_zero.ensures.1 e in let no = c.if-is_zero.false in absurd cc in
    let place = less_place rest c.loop-front.begin l.some (has_place rest c.loop-front.begin l.place s.below) in
    let smaller = subst (λ (n : ℕ). n < 10 ^ (c.loop-front.begin - 1)) (sym s.front) place in
    record {
      count = length-set _ _ _ ∙ l.count;
      text = more_digits c.args.self rest c.split_last-front.result.0 c.split_last-front.result.1 c.loop-front.begin c.loop-front.digits l.text l.some (omega (arith, l.count, l.bound)) s.front s.last goes s.below;
      place = inr smaller;
      some = place_left c.split_last-front.result.0 (c.loop-front.begin - 1) smaller goes;
      bound = omega (arith, l.bound);
      below = inr (known_below c.args.self rest l.below s.below);
    }
