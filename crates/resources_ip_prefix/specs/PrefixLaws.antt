-- Prefixes end within the addresses, and which ranges are prefixes.
use Rattle.std.proofs.Common.{◌≡◌, ℕ, ◌+◌, ◌-◌, ◌*◌, ◌/◌, ◌^◌, ◌<◌, ◌≤◌, inl, inr, ap, sym, ◌∙◌, arith, le_refl}
use Rattle.std.proofs.lemmas.Bool.Decides.{leb_tells}
use Rattle.std.proofs.lemmas.Nat.{pow_pos, pow-add, mul-le}
use Rattle.resources_ip_prefix.specs.declared.prefix.Prefix.{Prefix}
use Rattle.resources_ip_prefix.specs.All.{last_address}
use Rattle.resources_ip_prefix.specs.Address.{bits_of, bits_within}
use Rattle.resources_ip_prefix.specs.Prefix.{prefix_addr, prefix_len, run_of_prefix, len_within, host_clear}
use Rattle.resources_ip_prefix.specs.Prefixes.{span_of, first_of}

-- A multiple below another is so by at least their factor.
pub apart : (q m k : ℕ) → q * k < m * k → q * k + k ≤ m * k
apart q m k h =
    elim (leb_tells (q + 1) m) [
      | inl le ↦ let more : (q + 1) * k ≤ m * k = mul-le (q + 1) k m k le.1 (le_refl k) in
          let one_more : (q + 1) * k ≡ q * k + k = grind arith in
          omega arith
      | inr lt ↦ absurd (let back : m * k ≤ q * k = mul-le m k q k (omega arith) (le_refl k) in omega arith)
    ]

-- The last address of a prefix is one.
pub ends_within : (addr len : ℕ) → len ≤ 128 → first_of len addr ≡ addr → addr < 2 ^ 128
    → addr + (span_of len - 1) < 2 ^ 128
ends_within addr len h clear within =
    let m : ℕ = 128 - len in
    let whole : len + m ≡ 128 = omega arith in
    let parts : 2 ^ len * 2 ^ m ≡ 2 ^ 128 = sym (pow-add 2 len m) ∙ ap (λ (j : ℕ). 2 ^ j) whole in
    let below : addr / 2 ^ m * 2 ^ m < 2 ^ len * 2 ^ m = omega (arith, parts, clear, within) in
    omega (arith, apart (addr / 2 ^ m) (2 ^ len) (2 ^ m) below, parts, clear, pow_pos m)

pub prefix_within : (p : Prefix) → ((run_of_prefix p).first ≤ (run_of_prefix p).last)
    × ((run_of_prefix p).last ≤ last_address)
prefix_within p = (
  omega arith,
  omega (
    arith,
    ends_within (bits_of (prefix_addr p)) (prefix_len p)
        (len_within p) (host_clear p) (omega (arith, bits_within (prefix_addr p))),
  ),
)
