-- Numbers cut at a power of two, and the addresses from a first to a last.
use Rattle.std.proofs.Common.{◌≡◌, ℕ, ◌+◌, ◌-◌, ◌*◌, ◌/◌, ◌%◌, ◌^◌, ◌<◌, ◌≤◌, arith, sym, ap, ◌∙◌, subst, bit_and}
use Rattle.std.proofs.lemmas.Nat.{pow_pos, pow-add, shr_split, shr_below, and_mask, and_comm, and-not}
use Rattle.std.proofs.lemmas.Nat.Bits.{ones_shr}
use Rattle.std.proofs.Math.Nat.{mul-le-mul_right, mul-mod_left, pow-le-pow_right}
use Rattle.resources_ip_prefix.specs.AddrPrefixes.{Family, Ipv4, Ipv6, PrefixValue, IsPrefix, width, span}

pub wide : (f : Family) → 2 ^ width f ≤ 2 ^ 128
wide Ipv4 = omega arith
wide Ipv6 = omega arith

pub width_within : (f : Family) → width f ≤ 128
width_within Ipv4 = omega arith
width_within Ipv6 = omega arith

-- What is left of ones.
pub mask_is : (host gap : ℕ) → host ≤ 128 → gap ≡ 128 - host → (2 ^ 128 - 1) / 2 ^ gap ≡ 2 ^ host - 1
mask_is host gap fits e =
    let back : 128 - (128 - host) ≡ host = omega arith in
    ap (λ g. (2 ^ 128 - 1) / 2 ^ g) e ∙ ones_shr 128 (128 - host) (omega arith) ∙ ap (λ (h : ℕ). 2 ^ h - 1) back

-- Where the last k bits are zeros, the number with ones there is below 2 ^ w too.
pub last_within : (w k n : ℕ) → k ≤ w → n < 2 ^ w → n % 2 ^ k ≡ 0 → n + 2 ^ k ≤ 2 ^ w
last_within w k n fits within zeros =
    let whole : (w - k) + k ≡ w = omega arith in
    let q = n / 2 ^ k in
    let small : q < 2 ^ (w - k) = shr_below n (w - k) k (subst (λ (v : ℕ). n < 2 ^ v) (sym whole) within) in
    let next : (q + 1) * 2 ^ k ≤ 2 ^ (w - k) * 2 ^ k = mul-le-mul_right (2 ^ k) (omega arith) in
    let top : 2 ^ (w - k) * 2 ^ k ≡ 2 ^ w = sym (pow-add 2 (w - k) k) ∙ ap (λ (v : ℕ). 2 ^ v) whole in
    let here : q * 2 ^ k + n % 2 ^ k ≡ n = shr_split n k in
    let one_more : (q + 1) * 2 ^ k ≡ q * 2 ^ k + 2 ^ k = omega arith in
    omega arith

-- The last k bits cleared.
pub cleared : (n k : ℕ) → n < 2 ^ 128 → k ≤ 128 → bit_and n (2 ^ 128 - 1 - (2 ^ k - 1)) ≡ n / 2 ^ k * 2 ^ k
cleared n k within fits =
    let pos : 0 < 2 ^ k = pow_pos k in
    let top : 2 ^ k ≤ 2 ^ 128 = pow-le-pow_right (omega arith) fits in
    let both = and-not 128 (2 ^ k - 1) n (omega arith) within in
    let low : bit_and (2 ^ k - 1) n ≡ n % 2 ^ k = and_comm (2 ^ k - 1) n ∙ and_mask n k in
    let split = shr_split n k in
    and_comm n (2 ^ 128 - 1 - (2 ^ k - 1)) ∙ omega arith

pub cleared_zeros : (n k : ℕ) → (n / 2 ^ k * 2 ^ k) % 2 ^ k ≡ 0
cleared_zeros n k = mul-mod_left (n / 2 ^ k) (2 ^ k)

pub cleared_le : (n k : ℕ) → n / 2 ^ k * 2 ^ k ≤ n
cleared_le n k = let s = shr_split n k in omega arith

pub last_below : (p : PrefixValue) → IsPrefix p → (p.first + (span p.family p.len - 1) < 2 ^ width p.family) × (p.first + (span p.family p.len - 1) < 2 ^ 128)
last_below p h =
    let w = width p.family in
    let k = w - p.len in
    let top = last_within w k p.first (omega arith) h.within h.no_host in
    let some : 0 < 2 ^ k = pow_pos k in
    let all = wide p.family in
    (omega arith, omega arith)

-- A number masked by ones is its remainder.
pub masked : (n m w len v : ℕ) → m ≡ 2 ^ (v - len) - 1 → v ≡ w → bit_and n m ≡ n % 2 ^ (w - len)
masked n m w len v e d = ap (bit_and n) (e ∙ ap (λ (u : ℕ). 2 ^ (u - len) - 1) d) ∙ and_mask n (w - len)

pub unmasked : (n m len v : ℕ) (f : Family) → m ≡ 2 ^ (v - len) - 1 → v ≡ width f → n < 2 ^ width f → bit_and n (2 ^ 128 - 1 - m) ≡ n / span f len * span f len
unmasked n m len v f e d within =
    let all = wide f in
    let k = width f - len in
    let host : width f - len ≤ 128 = let w = width_within f in omega arith in
    ap (λ (u : ℕ). bit_and n (2 ^ 128 - 1 - u)) (e ∙ ap (λ (u : ℕ). 2 ^ (u - len) - 1) d) ∙ cleared n k (omega arith) host

pub is_cleared : (f : Family) (n len : ℕ) → len ≤ width f → n < 2 ^ width f → IsPrefix (record { family = f; first = n / span f len * span f len; len = len })
is_cleared f n len fits within = record {
  fits = fits;
  within = let le = cleared_le n (width f - len) in omega arith;
  no_host = cleared_zeros n (width f - len);
}
