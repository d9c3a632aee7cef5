-- The numbers that octets spell, digit by digit.
use Rattle.std.proofs.Common.{ℕ, ◌+◌, ◌*◌, ◌^◌, ◌<◌, ◌≤◌, List, [], ◌∷◌, length, ap, arith, All, lit<}
use Rattle.std.proofs.Math.Nat.{pow-succ', pow-le-pow_right, mul-le-mul_right}
use Rattle.std.proofs.lemmas.List.Elements.{All-head, All-tail}
use Rattle.bcder_tree.specs.Integers.{number_behind}

-- More octets reach further.
pub further : (i j : ℕ) → i ≤ j → 256 ^ i ≤ 256 ^ j
further i j h = pow-le-pow_right (lit< tt) h

-- What is read after a number lies at its place.
pub number_low : (b : ℕ) (v : List ℕ) → b * 256 ^ length v ≤ number_behind b v
number_low b [] = omega arith
number_low b (a ∷ v) = omega (arith, number_low (b * 256 + a) v, ap (λ (z : ℕ). b * z) (pow-succ' 256 (length v)))

pub number_high : (b : ℕ) (v : List ℕ) → All (λ a. a < 256) v → number_behind b v + 1 ≤ (b + 1) * 256 ^ length v
number_high b [] all = omega arith
number_high b (a ∷ v) all =
    let h : a < 256 = All-head (λ a. a < 256) a v all in
    let p : (a + 1) * 256 ^ length v ≤ 256 * 256 ^ length v = mul-le-mul_right (256 ^ length v) (let k : a + 1 ≤ 256 = omega arith in k) in
    omega (arith, number_high (b * 256 + a) v (All-tail (λ a. a < 256) a v all), ap (λ (z : ℕ). (b + 1) * z) (pow-succ' 256 (length v)))
