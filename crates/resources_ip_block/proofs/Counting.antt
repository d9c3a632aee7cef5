-- How many zeros, or ones, stand at the end of a number of 128 bits, and which prefixes that makes.
use Rattle.std.proofs.Common.{◌≡◌, ℕ, zero, suc, ◌+◌, ◌-◌, ◌*◌, ◌/◌, ◌%◌, ◌^◌, ◌<◌, ◌≤◌, ◌⊎◌, inl, inr, ap, sym, subst, ◌∙◌, arith, refl}
use Rattle.std.specs.Int.Count.{count_leading_zeros, count_trailing_zeros, under}
use Rattle.std.specs.Int.{trailing_ones, w128}
use Rattle.std.proofs.Math.Pow.{pow_mono}
use Rattle.std.proofs.lemmas.Bool.Decides.{leb_tells}
use Rattle.resources_ip_block.specs.resources_chain.Sets.{Run}
use Rattle.resources_ip_prefix.specs.All.{last_address}
use Rattle.resources_ip_prefix.specs.declared.prefix.Prefix.{Prefix}
use Rattle.resources_ip_prefix.specs.Address.{bits_of}
use Rattle.resources_ip_prefix.specs.Prefix.{prefix_addr, prefix_len}
use Rattle.resources_ip_prefix.specs.Prefixes.{span_of, first_of, last_of}
use Rattle.resources_ip_prefix.proofs.Spans.{clear_longer}
use Rattle.resources_ip_block.specs.Cover.{IsFirst}
use Rattle.resources_ip_block.specs.Written.{IsShortestMin, IsShortestMax}
use Rattle.std.proofs.Math.Nat.{pow-suc, mul_assoc, lt_of_mul-lt-mul_right}
use Rattle.std.proofs.lemmas.Nat.{pow_pos, pow-add, shr-shr, div-mul-add, leading_top, trailing_le}

-- A number is a multiple of two to the power of its zeros.
multiple_twice : (n t : ℕ) → n % 2 ≡ 0 → n / 2 / 2 ^ t * 2 ^ t ≡ n / 2 → n / 2 ^ suc t * 2 ^ suc t ≡ n
multiple_twice n t even h =
    let e : n / 2 ^ suc t ≡ n / 2 / 2 ^ t = ap (λ (m : ℕ). n / 2 ^ m) (omega arith) ∙ sym (shr-shr n 1 t) in
    let p : 2 ^ suc t ≡ 2 ^ t * 2 = pow-suc 2 t in
    let q : n / 2 / 2 ^ t * 2 ^ suc t ≡ n / 2 / 2 ^ t * 2 ^ t * 2 = ap (λ (m : ℕ). n / 2 / 2 ^ t * m) p ∙ sym (mul_assoc (n / 2 / 2 ^ t) (2 ^ t) 2) in
    let r : n / 2 ^ suc t * 2 ^ suc t ≡ n / 2 / 2 ^ t * 2 ^ suc t = ap (λ (m : ℕ). m * 2 ^ suc t) e in
    omega (arith, even, h, q, r)

pub trailing_multiple : (k n : ℕ) → n / 2 ^ count_trailing_zeros k n * 2 ^ count_trailing_zeros k n ≡ n
unfolding count_trailing_zeros
trailing_multiple zero n = omega arith
trailing_multiple (suc k) n = at (count_trailing_zeros k (n / 2)) (trailing_multiple k (n / 2)) (n % 2) refl
  where
    at : (t : ℕ) → n / 2 / 2 ^ t * 2 ^ t ≡ n / 2 → (d : ℕ) → n % 2 ≡ d → n / 2 ^ under d t * 2 ^ under d t ≡ n
    at t h zero e = multiple_twice n t e h
    at t h (suc d) e = omega arith

half_multiple : (n j : ℕ) → n / 2 ^ suc j * 2 ^ suc j ≡ n → (n % 2 ≡ 0) × (n / 2 / 2 ^ j * 2 ^ j ≡ n / 2)
half_multiple n j h =
    let e : n / 2 ^ suc j ≡ n / 2 / 2 ^ j = ap (λ (m : ℕ). n / 2 ^ m) (omega arith) ∙ sym (shr-shr n 1 j) in
    let p : 2 ^ suc j ≡ 2 ^ j * 2 = pow-suc 2 j in
    let q : n / 2 / 2 ^ j * 2 ^ suc j ≡ n / 2 / 2 ^ j * 2 ^ j * 2 = ap (λ (m : ℕ). n / 2 / 2 ^ j * m) p ∙ sym (mul_assoc (n / 2 / 2 ^ j) (2 ^ j) 2) in
    let r : n / 2 ^ suc j * 2 ^ suc j ≡ n / 2 / 2 ^ j * 2 ^ suc j = ap (λ (m : ℕ). m * 2 ^ suc j) e in
    (omega (arith, h, q, r), omega (arith, h, q, r))

-- No more zeros stand there.
pub trailing_most : (k n j : ℕ) → j ≤ k → n / 2 ^ j * 2 ^ j ≡ n → j ≤ count_trailing_zeros k n
unfolding count_trailing_zeros
trailing_most k n zero h e = omega arith
trailing_most zero n (suc j) h e = omega (arith, h)
trailing_most (suc k) n (suc j) h e =
    let half = half_multiple n j e in
    at (count_trailing_zeros k (n / 2)) (trailing_most k (n / 2) j (omega (arith, h)) half.1) (n % 2) half.0
  where
    at : (t : ℕ) → j ≤ t → (d : ℕ) → d ≡ 0 → suc j ≤ under d t
    at t le zero z = omega (arith, le)
    at t le (suc d) z = absurd (omega (arith, z))

-- Ones stand at the end of a number where zeros do in what it lacks of all ones.
sum_of : (d q p : ℕ) → (d + q + 1) * p ≡ d * p + q * p + p
sum_of d q p = grind arith

parts_of : (j : ℕ) → j ≤ 128 → 2 ^ 128 ≡ 2 ^ (128 - j) * 2 ^ j
parts_of j le = ap (λ (i : ℕ). 2 ^ i) (let whole : 128 ≡ (128 - j) + j = omega arith in whole) ∙ pow-add 2 (128 - j) j

lacks_multiple : (n j : ℕ) → n < 2 ^ 128 → j ≤ 128 → n / 2 ^ j * 2 ^ j + (2 ^ j - 1) ≡ n → (2 ^ 128 - 1 - n) / 2 ^ j * 2 ^ j ≡ 2 ^ 128 - 1 - n
lacks_multiple n j h le e =
    let p : ℕ = 2 ^ j in
    let w : ℕ = 2 ^ (128 - j) in
    let q : ℕ = n / 2 ^ j in
    let pos : 0 < p = pow_pos j in
    let parts : 2 ^ 128 ≡ w * p = parts_of j le in
    let below : q < w = lt_of_mul-lt-mul_right p (omega (arith, parts, h, e)) in
    let d : ℕ = w - q - 1 in
    let all : d + q + 1 ≡ w = omega (arith, below) in
    let sum : w * p ≡ d * p + q * p + p = subst (λ (x : ℕ). x * p ≡ d * p + q * p + p) all (sum_of d q p) in
    let is : d * p + 0 ≡ 2 ^ 128 - 1 - n = omega (arith, parts, sum, e, pos) in
    let same : (2 ^ 128 - 1 - n) / p ≡ d = subst (λ (x : ℕ). x / p ≡ d) is (div-mul-add d p 0 pos) in
    ap (λ (x : ℕ). x * p) same ∙ omega (arith, is)

lacks_ones : (n j : ℕ) → n < 2 ^ 128 → j ≤ 128 → (2 ^ 128 - 1 - n) / 2 ^ j * 2 ^ j ≡ 2 ^ 128 - 1 - n → n / 2 ^ j * 2 ^ j + (2 ^ j - 1) ≡ n
lacks_ones n j h le e =
    let p : ℕ = 2 ^ j in
    let w : ℕ = 2 ^ (128 - j) in
    let d : ℕ = (2 ^ 128 - 1 - n) / 2 ^ j in
    let pos : 0 < p = pow_pos j in
    let parts : 2 ^ 128 ≡ w * p = parts_of j le in
    let below : d < w = lt_of_mul-lt-mul_right p (omega (arith, parts, h, e)) in
    let g : ℕ = w - d - 1 in
    let all : g + d + 1 ≡ w = omega (arith, below) in
    let sum : w * p ≡ g * p + d * p + p = subst (λ (x : ℕ). x * p ≡ g * p + d * p + p) all (sum_of g d p) in
    let is : g * p + (p - 1) ≡ n = omega (arith, parts, sum, e, h, pos) in
    let same : n / p ≡ g = subst (λ (x : ℕ). x / p ≡ g) is (div-mul-add g p (p - 1) (omega (arith, pos))) in
    ap (λ (x : ℕ). x * p + (p - 1)) same ∙ is

-- The place of the highest bit of a number.
pub highest : (count : ℕ) → 0 < count → count < 2 ^ 128 → (2 ^ (127 - count_leading_zeros 128 count) ≤ count) × ((k : ℕ) → 2 ^ k ≤ count → k ≤ 127 - count_leading_zeros 128 count)
highest count some h =
    let top = leading_top 128 count some h in
    let place : 127 - count_leading_zeros 128 count ≡ top.0 = omega (arith, top.1) in (
      subst (λ (j : ℕ). 2 ^ j ≤ count) (sym place) top.2,
      λ k le. subst (λ (j : ℕ). k ≤ j) (sym place) (elim (leb_tells k top.0) [
        | inl at ↦ at.1
        | inr past ↦ absurd (let more : 2 ^ suc top.0 ≤ 2 ^ k = pow_mono (omega (arith, past.1)) in omega (arith, more, le, top.3))
      ]),
    )

-- The first bits of an address, without the zeros at its end, make the shortest prefix that begins with it.
pub zeros_cut : (n : ℕ) → first_of (128 - count_trailing_zeros 128 n) n ≡ n
zeros_cut n =
    let back : 128 - (128 - count_trailing_zeros 128 n) ≡ count_trailing_zeros 128 n = omega (arith, trailing_le 128 n) in
    subst (λ (j : ℕ). n / 2 ^ j * 2 ^ j ≡ n) (sym back) (trailing_multiple 128 n)

pub zeros_all : (n len : ℕ) → len ≤ 128 → first_of len n ≡ n → 128 - count_trailing_zeros 128 n ≤ len
zeros_all n len short e = omega (arith, trailing_most 128 n (128 - len) (omega arith) e, short)

-- And those without the ones at its end the shortest that ends with it.
pub ones_cut : (n : ℕ) → n ≤ last_address → last_of (128 - trailing_ones w128 n) n ≡ n
ones_cut n h =
    let t : ℕ = count_trailing_zeros 128 (2 ^ 128 - 1 - n) in
    let back : 128 - (128 - t) ≡ t = omega (arith, trailing_le 128 (2 ^ 128 - 1 - n)) in
    subst (λ (j : ℕ). n / 2 ^ j * 2 ^ j + (2 ^ j - 1) ≡ n) (sym back) (lacks_ones n t (omega (arith, h)) (trailing_le 128 (2 ^ 128 - 1 - n)) (trailing_multiple 128 (2 ^ 128 - 1 - n)))

pub ones_all : (n len : ℕ) → n ≤ last_address → len ≤ 128 → last_of len n ≡ n → 128 - trailing_ones w128 n ≤ len
ones_all n len h short e =
    omega (arith, trailing_most 128 (2 ^ 128 - 1 - n) (128 - len) (omega arith) (lacks_multiple n (128 - len) (omega (arith, h)) (omega arith) e), short)

pub shortest_min_is : (first : ℕ) (p : Prefix) → bits_of (prefix_addr p) ≡ first_of (128 - count_trailing_zeros 128 first) first → prefix_len p ≡ 128 - count_trailing_zeros 128 first → IsShortestMin first p
shortest_min_is first p addr len = record {
  begins = addr ∙ zeros_cut first;
  shortest = λ k short e. omega (arith, len, zeros_all first k short e);
}

pub shortest_max_is : (last : ℕ) (p : Prefix) → last ≤ last_address → bits_of (prefix_addr p) ≡ first_of (128 - trailing_ones w128 last) last → prefix_len p ≡ 128 - trailing_ones w128 last → IsShortestMax last p
shortest_max_is last p within addr len = record {
  ends =
      let own : bits_of (prefix_addr p) + (span_of (128 - trailing_ones w128 last) - 1) ≡ last = omega (arith, addr, ones_cut last within) in
      subst (λ (k : ℕ). bits_of (prefix_addr p) + (span_of k - 1) ≡ last) (sym len) own;
  shortest = λ k short e. omega (arith, len, ones_all last k within short e);
}

-- Of the bits that are zeros at the end of the first address as many can be free as there are addresses for.
pub first_is : (r : Run) (p : Prefix) (free fitting : ℕ) → free ≤ count_trailing_zeros 128 r.first → free ≤ fitting → (count_trailing_zeros 128 r.first ≤ free) ⊎ (fitting ≤ free) → r.first ≤ r.last → 2 ^ fitting ≤ r.last - r.first + 1 → ((k : ℕ) → k ≤ 128 → 2 ^ k ≤ r.last - r.first + 1 → k ≤ fitting) → bits_of (prefix_addr p) ≡ first_of (128 - free) r.first → prefix_len p ≡ 128 - free → IsFirst r p
first_is r p free fitting clear fits whole order small most addr len =
    let few : count_trailing_zeros 128 r.first ≤ 128 = trailing_le 128 r.first in
    let start : bits_of (prefix_addr p) ≡ r.first = addr ∙ clear_longer (128 - count_trailing_zeros 128 r.first) (128 - free) r.first (omega (arith, clear)) (omega arith) (zeros_cut r.first) in
    let back : 128 - prefix_len p ≡ free = omega (arith, len, clear, few) in
    let span : 2 ^ free ≤ 2 ^ fitting = pow_mono fits in
    record {
      start = start;
      to = subst (λ (k : ℕ). bits_of (prefix_addr p) + (2 ^ k - 1) ≤ r.last) (sym back) (omega (arith, start, span, small, order));
      longest = λ k short own lies. elim whole [
        | inl all ↦ omega (arith, len, zeros_all r.first k short own, all)
        | inr all ↦ omega (arith, len, most (128 - k) (omega arith) (omega (arith, lies, order, pow_pos (128 - k))), all, short)
      ];
    }
