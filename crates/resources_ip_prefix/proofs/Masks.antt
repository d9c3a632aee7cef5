-- Bits after a prefix, cleared and set.
use Rattle.std.proofs.Common.{◌≡◌, ℕ, ◌+◌, ◌-◌, ◌*◌, ◌/◌, ◌^◌, ◌≤◌, ap, sym, ◌∙◌, arith, bit_and}
use Rattle.std.specs.Prelude.{bit_or}
use Rattle.std.proofs.lemmas.Nat.{and_mask, shr_split, shr_high, pow_pos, pow-add}
use Rattle.std.specs.Int.Bits.{or_add_and}

-- The bits from `k` on are cleared, or set.
pub cleared : (n k : ℕ) → n - bit_and n (2 ^ k - 1) ≡ n / 2 ^ k * 2 ^ k
cleared n k = omega (arith, and_mask n k, shr_split n k)

pub set : (n k : ℕ) → bit_or n (2 ^ k - 1) ≡ n / 2 ^ k * 2 ^ k + (2 ^ k - 1)
set n k = omega (arith, or_add_and n (2 ^ k - 1), and_mask n k, shr_split n k)

all_ones : (a b : ℕ) → a * (b + 1) + b + 1 ≡ (a + 1) * (b + 1)
all_ones a b = grind arith

-- As many ones as are left after the first `len`.
pub ones_left : (len : ℕ) → len ≤ 128 → (2 ^ 128 - 1) / 2 ^ len ≡ 2 ^ (128 - len) - 1
ones_left len h =
    let m : ℕ = 128 - len in
    let whole : m + len ≡ 128 = omega arith in
    let parts : 2 ^ 128 ≡ 2 ^ m * 2 ^ len = ap (λ (j : ℕ). 2 ^ j) (sym whole) ∙ pow-add 2 m len in
    let one_m : (2 ^ m - 1) + 1 ≡ 2 ^ m = omega (arith, pow_pos m) in
    let one_len : (2 ^ len - 1) + 1 ≡ 2 ^ len = omega (arith, pow_pos len) in
    let sum : (2 ^ m - 1) * ((2 ^ len - 1) + 1) + (2 ^ len - 1) + 1 ≡ ((2 ^ m - 1) + 1) * ((2 ^ len - 1) + 1) = all_ones (2 ^ m - 1) (2 ^ len - 1) in
    let there : (2 ^ m - 1) * 2 ^ len + (2 ^ len - 1) + 1 ≡ 2 ^ m * 2 ^ len = rw (one_m, one_len) at sum in
    let split : 2 ^ 128 - 1 ≡ (2 ^ m - 1) * 2 ^ len + (2 ^ len - 1) = omega (arith, parts, there) in
    ap (λ (j : ℕ). j / 2 ^ len) split ∙ shr_high (2 ^ m - 1) len (2 ^ len - 1) (omega (arith, pow_pos len))
