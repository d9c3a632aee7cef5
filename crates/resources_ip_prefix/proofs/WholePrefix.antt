-- Prefixes of whole IPv4 addresses.
use Rattle.std.proofs.Common.{◌≡◌, ℕ, ◌+◌, ◌-◌, ◌*◌, ◌/◌, ◌%◌, ◌^◌, ◌≤◌, ap, sym, ◌∙◌, arith}
use Rattle.std.proofs.lemmas.Nat.{pow_pos, pow-add, mod_low}
use Rattle.resources_ip_prefix.specs.Prefixes.{first_of, prefix_run}
use Rattle.resources_ip_prefix.specs.Whole.{IsWhole}

-- Multiples of a greater power of two.
high : (q j : ℕ) → 96 ≤ j → (q * 2 ^ j) % 2 ^ 96 ≡ 0
high q j h =
    let parts : 2 ^ j ≡ 2 ^ (j - 96) * 2 ^ 96 = ap (λ (k : ℕ). 2 ^ k) (omega arith) ∙ pow-add 2 (j - 96) 96 in
    let e : q * 2 ^ j ≡ q * 2 ^ (j - 96) * 2 ^ 96 + 0 = ap (λ (k : ℕ). q * k) parts ∙ grind arith in
    ap (λ (k : ℕ). k % 2 ^ 96) e ∙ mod_low (q * 2 ^ (j - 96)) 96 0 (pow_pos 96)

-- A prefix of at most 32 bits is over whole addresses.
pub whole_prefix : (addr len : ℕ) → len ≤ 32 → first_of len addr ≡ addr → IsWhole (prefix_run addr len)
whole_prefix addr len h clear =
    let j : ℕ = 128 - len in
    let low : addr % 2 ^ 96 ≡ 0 = sym (ap (λ (k : ℕ). k % 2 ^ 96) clear) ∙ high (addr / 2 ^ j) j (omega arith) in
    let span : (1 * 2 ^ j) % 2 ^ 96 ≡ 0 = high 1 j (omega arith) in
    (low, omega (arith, low, span, pow_pos j))
