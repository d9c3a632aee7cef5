-- Decimal digits of a number, the last of them first.
use Rattle.std.proofs.Common.{◌≡◌, ◌≢◌, ℕ, zero, suc, ◌+◌, ◌-◌, ◌*◌, ◌/◌, ◌%◌, ◌^◌, ◌<◌, ◌≤◌, ◌⊎◌, inl, inr, List, [], ◌∷◌, ◌++◌, drop, set, length, sym, ap, ◌∙◌, subst, arith}
use Rattle.std.proofs.Math.Nat.{pow-succ'}
use Rattle.std.proofs.lemmas.Fmt.{IsAscii-decimal_wide, decimal_digit, decimal_step_wide}
use Rattle.std.proofs.lemmas.Str.{IsUtf8-from_ascii}
use Rattle.std.specs.Str.{IsUtf8}
use Rattle.std.proofs.lemmas.List.{append_assoc, drop-set}
use Rattle.std.specs.Fmt.{decimal}

-- There is place for all digits of a number below 2^160.
pub has_place : (n b : ℕ) → (b ≡ 49) ⊎ (n < 10 ^ b) → n < 2 ^ 160 → n < 10 ^ b
has_place n b (inl e) small = subst (λ (k : ℕ). n < 10 ^ k) (sym e) (omega arith)
has_place n b (inr p) small = p

-- A number is below 2^160 where what is left of it is, or it is known to be.
pub known_below : (n rest : ℕ) → (rest ≡ n) ⊎ (n < 2 ^ 160) → rest < 2 ^ 160 → n < 2 ^ 160
known_below n rest (inl e) small = omega arith
known_below n rest (inr p) small = p

-- The digits are characters of one octet.
pub digits_in_utf8 : (n : ℕ) (text : List ℕ) → text ≡ decimal n → n < 2 ^ 160 → IsUtf8 text
digits_in_utf8 n text e small = subst IsUtf8 (sym e) (IsUtf8-from_ascii (decimal n) (IsAscii-decimal_wide n (omega arith)))

-- One place less for the number without its last digit.
pub less_place : (n b : ℕ) → 1 ≤ b → n < 10 ^ b → n / 10 < 10 ^ (b - 1)
less_place n b some p =
    let wider : 10 ^ suc (b - 1) ≡ 10 * 10 ^ (b - 1) = pow-succ' 10 (b - 1) in
    let same : 10 ^ suc (b - 1) ≡ 10 ^ b = ap (λ k. 10 ^ k) (omega arith) in
    omega (arith, wider, same)

-- Where the number without its last digit isn't 0, there is place left for it.
pub place_left : (n b : ℕ) → n < 10 ^ b → n ≢ 0 → 1 ≤ b
place_left n zero p some = absurd (some (omega arith))
place_left n (suc b) p some = omega arith

-- The digits with one more in front.
one_more : (digits : List ℕ) (b d : ℕ) → 1 ≤ b → b ≤ length digits → drop (b - 1) (set digits (b - 1) d) ≡ d ∷ drop b digits
one_more digits b d some there = drop-set digits (b - 1) d (omega arith) ∙ ap (λ (k : ℕ). d ∷ drop k digits) (omega arith)

-- The digit is the first of the number.
pub first_digit : (n rest front last b : ℕ) (digits : List ℕ) → decimal n ≡ decimal rest ++ drop b digits → 1 ≤ b → b ≤ length digits → front ≡ rest / 10 → last ≡ rest % 10 → front ≡ 0
    → drop (b - 1) (set digits (b - 1) (48 + last)) ≡ decimal n
first_digit n rest front last b digits text some there e f ends =
    let alone : decimal rest ≡ (48 + last) ∷ [] = decimal_digit rest (omega arith) ∙ ap (λ (d : ℕ). (48 + d) ∷ []) (omega arith) in
    one_more digits b (48 + last) some there ∙ sym (text ∙ ap (λ (v : List ℕ). v ++ drop b digits) alone)

-- There are more digits in front.
pub more_digits : (n rest front last b : ℕ) (digits : List ℕ) → decimal n ≡ decimal rest ++ drop b digits → 1 ≤ b → b ≤ length digits → front ≡ rest / 10 → last ≡ rest % 10 → front ≢ 0 → rest < 2 ^ 160
    → decimal n ≡ decimal front ++ drop (b - 1) (set digits (b - 1) (48 + last))
more_digits n rest front last b digits text some there e f goes small =
    let wide : 10 ≤ rest = omega (arith, nonzero) in
    let step : decimal rest ≡ decimal front ++ ((48 + last) ∷ []) = decimal_step_wide rest wide (omega arith) ∙ ap (λ (m : ℕ). decimal m ++ ((48 + rest % 10) ∷ [])) (sym e) ∙ ap (λ (d : ℕ). decimal front ++ ((48 + d) ∷ [])) (sym f) in
    text ∙ ap (λ (v : List ℕ). v ++ drop b digits) step ∙ append_assoc (decimal front) ((48 + last) ∷ []) (drop b digits) ∙ ap (λ (v : List ℕ). decimal front ++ v) (sym (one_more digits b (48 + last) some there))
  where
    nonzero : 1 ≤ rest / 10
    nonzero = omega (arith, goes)
