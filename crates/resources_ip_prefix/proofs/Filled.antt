-- Octets as numbers of 128 bits, and how many bits they are.
use Rattle.std.proofs.Common.{◌≡◌, ℕ, zero, suc, ◌+◌, ◌-◌, ◌*◌, ◌/◌, ◌^◌, ◌<◌, ◌≤◌, List, [], ◌∷◌, All, length, refl, sym, ap, ◌∙◌, arith, le_refl}
use Rattle.std.proofs.Math.Nat.{pow-suc, mul_assoc}
use Rattle.std.proofs.lemmas.Nat.{mul-le}
use Rattle.resources_ip_prefix.specs.bcder_octets.Bits.{BitsValue, IsBits, bits}
use Rattle.resources_ip_prefix.proofs.of_bcder_octets.BitLists.{length-bits}
use Rattle.resources_ip_prefix.specs.declared.addr.AddressFamily.{AddressFamily}
use Rattle.resources_ip_prefix.specs.declared.addr.AddressFamily.TheVariants.{Ipv4, Ipv6}
use Rattle.resources_ip_prefix.specs.Encodings.{FitsFamily, filled}

pub filled_none : (count : ℕ) → filled count [] ≡ 0
filled_none zero = refl
filled_none (suc count) = refl

-- One octet more after them is a zero.
filled_more : (count : ℕ) (v : List ℕ) → length v ≤ count → filled (suc count) v ≡ 256 * filled count v
filled_more zero [] h = refl
filled_more zero (a ∷ v) h = absurd (omega arith)
filled_more (suc count) [] h = refl
filled_more (suc count) (a ∷ v) h =
    let more = filled_more count v (omega arith) in
    let power : 256 ^ suc count ≡ 256 ^ count * 256 = pow-suc 256 count in
    let first : a * 256 ^ suc count ≡ a * 256 ^ count * 256 = ap (λ (n : ℕ). a * n) power ∙ sym (mul_assoc a (256 ^ count) 256) in
    omega (arith, more, first)

-- The first octet, and the others after it.
pub filled_first : (a : ℕ) (v : List ℕ) → length v + 1 ≤ 16 → filled 16 (a ∷ v) ≡ a * 2 ^ 120 + filled 16 v / 2 ^ 8
filled_first a v h = omega (arith, filled_more 15 v (omega arith))

-- They are fewer than so many octets have.
below : (count : ℕ) (v : List ℕ) → All (λ a. a < 256) v → filled count v < 256 ^ count
below zero v h = omega arith
below (suc count) [] h = let power : 256 ^ suc count ≡ 256 ^ count * 256 = pow-suc 256 count in omega (arith, power, below count [] h)
below (suc count) (a ∷ v) h =
    let power : 256 ^ suc count ≡ 256 ^ count * 256 = pow-suc 256 count in
    let rest = below count v (λ k d lt. h (suc k) d (omega arith)) in
    let one_more : (a + 1) * 256 ^ count ≡ a * 256 ^ count + 256 ^ count = grind arith in
    let first : (a + 1) * 256 ^ count ≤ 256 * 256 ^ count = mul-le (a + 1) (256 ^ count) 256 (256 ^ count) (let few : a < 256 = h zero 0 (omega arith) in omega arith) (le_refl (256 ^ count)) in
    omega (arith, power, rest, first, one_more)

pub filled_within : (v : List ℕ) → All (λ a. a < 256) v → filled 16 v < 2 ^ 128
filled_within v h = omega (arith, below 16 v h)

-- All octets have eight bits, but for the unused ones.
pub bits_counted : (v : BitsValue) → length (bits v) ≡ 8 * length v.octets - v.unused
bits_counted v = length-bits v

no_octets : (v : List ℕ) → length v ≡ 0 → v ≡ []
no_octets [] h = refl
no_octets (a ∷ v) h = absurd (omega arith)

pub bits_lawful : (v : BitsValue) → IsBits v → (v.unused < 8) × (v.unused ≤ 8 * length v.octets)
bits_lawful v is = (is.few, at (length v.octets) refl)
  where
    at : (n : ℕ) → length v.octets ≡ n → v.unused ≤ 8 * length v.octets
    at zero e = let none = is.none (no_octets v.octets e) in omega arith
    at (suc n) e = let few = is.few in omega (arith, few, e)

-- More than 16 octets have more bits than any address.
pub too_many : (family : AddressFamily) (v : BitsValue) → IsBits v → 16 < length v.octets → FitsFamily family v → ⊥
too_many Ipv4 v is many fits = omega (arith, length-bits v, is.few, many, fits)
too_many Ipv6 v is many fits = omega (arith, length-bits v, is.few, many, fits)
