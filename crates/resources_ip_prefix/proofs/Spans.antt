-- The addresses that share their first bits.
use Rattle.std.proofs.Common.{◌≡◌, ℕ, ◌+◌, ◌-◌, ◌*◌, ◌/◌, ◌^◌, ◌<◌, ◌≤◌, ◌↔◌, inl, inr, ap, sym, subst, ◌∙◌, arith, le_refl}
use Rattle.std.proofs.lemmas.Bool.Decides.{leb_tells}
use Rattle.std.proofs.lemmas.Nat.{pow_pos, pow-add, shl-shr, shr-shr, shr_split, mul-le, mod_below}
use Rattle.resources_chain.specs.Sets.{InRun}
use Rattle.resources_ip_prefix.specs.PrefixLaws.{apart}
use Rattle.resources_ip_prefix.specs.Prefixes.{span_of, first_of, prefix_run}

-- A block of 2 ^ j numbers lies in the block of 2 ^ (i + j) that has it.
block_from : (n i j : ℕ) → n / 2 ^ (j + i) * 2 ^ (j + i) ≤ n / 2 ^ j * 2 ^ j
block_from n i j =
    let q : ℕ = n / 2 ^ j in
    let e : n / 2 ^ (j + i) ≡ q / 2 ^ i = sym (shr-shr n j i) in
    let parts : 2 ^ (j + i) ≡ 2 ^ i * 2 ^ j = ap (λ (k : ℕ). 2 ^ k) (omega arith) ∙ pow-add 2 i j in
    let low : q / 2 ^ i * 2 ^ i ≤ q = omega (arith, shr_split q i) in
    let scaled : q / 2 ^ i * 2 ^ i * 2 ^ j ≤ q * 2 ^ j = mul-le (q / 2 ^ i * 2 ^ i) (2 ^ j) q (2 ^ j) low (le_refl (2 ^ j)) in
    let same : n / 2 ^ (j + i) * 2 ^ (j + i) ≡ q / 2 ^ i * 2 ^ i * 2 ^ j = rw (e, parts) (grind arith) in
    omega (arith, same, scaled)

block_to : (n i j : ℕ) → n / 2 ^ j * 2 ^ j + 2 ^ j ≤ n / 2 ^ (j + i) * 2 ^ (j + i) + 2 ^ (j + i)
block_to n i j =
    let q : ℕ = n / 2 ^ j in
    let e : n / 2 ^ (j + i) ≡ q / 2 ^ i = sym (shr-shr n j i) in
    let parts : 2 ^ (j + i) ≡ 2 ^ i * 2 ^ j = ap (λ (k : ℕ). 2 ^ k) (omega arith) ∙ pow-add 2 i j in
    let high : q + 1 ≤ q / 2 ^ i * 2 ^ i + 2 ^ i = omega (arith, shr_split q i, mod_below q (2 ^ i) (pow_pos i)) in
    let scaled : (q + 1) * 2 ^ j ≤ (q / 2 ^ i * 2 ^ i + 2 ^ i) * 2 ^ j = mul-le (q + 1) (2 ^ j) (q / 2 ^ i * 2 ^ i + 2 ^ i) (2 ^ j) high (le_refl (2 ^ j)) in
    let same : n / 2 ^ (j + i) * 2 ^ (j + i) + 2 ^ (j + i) ≡ (q / 2 ^ i * 2 ^ i + 2 ^ i) * 2 ^ j = rw (e, parts) (grind arith) in
    let one_more : (q + 1) * 2 ^ j ≡ q * 2 ^ j + 2 ^ j = grind arith in
    omega (arith, same, scaled, one_more)

-- The addresses that share `long` bits lie in those that share `short` of them.
pub from_longer : (short long n : ℕ) → short ≤ long → long ≤ 128 → first_of short n ≤ first_of long n
from_longer short long n h k =
    let e : 128 - short ≡ (128 - long) + (long - short) = omega arith in
    subst (λ (m : ℕ). n / 2 ^ m * 2 ^ m ≤ first_of long n) (sym e) (block_from n (long - short) (128 - long))

pub to_longer : (short long n : ℕ) → short ≤ long → long ≤ 128 → first_of long n + span_of long ≤ first_of short n + span_of short
to_longer short long n h k =
    let e : 128 - short ≡ (128 - long) + (long - short) = omega arith in
    subst (λ (m : ℕ). first_of long n + span_of long ≤ n / 2 ^ m * 2 ^ m + 2 ^ m) (sym e) (block_to n (long - short) (128 - long))

-- An address is among those that share its bits.
pub own_block : (len n : ℕ) → (first_of len n ≤ n) × (n < first_of len n + span_of len)
own_block len n = (omega (arith, shr_split n (128 - len)), omega (arith, shr_split n (128 - len), mod_below n (2 ^ (128 - len)) (pow_pos (128 - len))))

pub own_first : (len n : ℕ) → first_of len (first_of len n) ≡ first_of len n
own_first len n = ap (λ (q : ℕ). q * span_of len) (shl-shr (n / span_of len) (128 - len))

-- Bits that are clear after fewer bits are clear after more.
pub clear_longer : (short long n : ℕ) → short ≤ long → long ≤ 128 → first_of short n ≡ n → first_of long n ≡ n
clear_longer short long n h k clear = omega (arith, from_longer short long n h k, clear, own_block long n)

-- Of two addresses with clear bits the later is later by a whole span.
pub spaced : (len m n : ℕ) → first_of len m ≡ m → first_of len n ≡ n → m < n → m + span_of len ≤ n
spaced len m n a b h = omega (arith, apart (m / span_of len) (n / span_of len) (span_of len) (omega (arith, a, b, h)), a, b)

-- An address of a prefix has the prefix's own as its first.
pub first_in : (len m n : ℕ) → first_of len m ≡ m → m ≤ n → n < m + span_of len → first_of len n ≡ m
first_in len m n clear from to =
    elim (leb_tells (first_of len n) m) [
      | inl le ↦ elim (leb_tells m (first_of len n)) [
        | inl ge ↦ omega (arith, le.1, ge.1)
        | inr lt ↦ absurd (omega (arith, spaced len (first_of len n) m (own_first len n) clear (omega (arith, lt.1)), own_block len n))
      ]
      | inr lt ↦ absurd (omega (arith, spaced len m (first_of len n) clear (own_first len n) (omega (arith, lt.1)), own_block len n))
    ]

-- A prefix has the addresses that begin with its bits.
pub shared_bits : (addr len n : ℕ) → first_of len addr ≡ addr → InRun (prefix_run addr len) n ↔ (first_of len n ≡ addr)
shared_bits addr len n clear = (
  λ h. first_in len addr n clear h.0 (omega (arith, h.1, pow_pos (128 - len))),
  λ e. (omega (arith, e, own_block len n), omega (arith, e, own_block len n)),
)
