-- The bits of octets, counted and by their places.
use Rattle.std.proofs.Common.{◌≡◌, ℕ, zero, suc, ◌+◌, ◌-◌, ◌*◌, ◌/◌, ◌%◌, ◌^◌, ◌<◌, ◌≤◌, ◌==◌, false, List, [], ◌∷◌, length, take, get_or, slice_get, unwrap_or, refl, sym, ap, ◌∙◌, arith}
use Rattle.std.specs.List.{flat_map}
use Rattle.std.proofs.Math.Nat.{mod-lt, div-add-mod}
use Rattle.std.proofs.lemmas.List.{length-append, length-take-le, get_or-take, get_or_past}
use Rattle.std.proofs.lemmas.List.Concat.{get_or-flat_map}
use Rattle.std.proofs.lemmas.Option.{unwrap_or-slice_get}
use Rattle.bcder_octets.specs.Bits.{BitsValue, octet_bits, bits}

-- An octet has eight bits.
pub length-octet_bits : (a : ℕ) → length (octet_bits a) ≡ 8
unfolding octet_bits
length-octet_bits a = refl

-- The bit at a place, from the highest on.
pub get_octet_bit : (a j : ℕ) → j < 8 → get_or (octet_bits a) j false ≡ (a / 2 ^ (7 - j) % 2 == 1)
unfolding octet_bits
get_octet_bit a zero h = refl
get_octet_bit a (suc zero) h = refl
get_octet_bit a (suc (suc zero)) h = refl
get_octet_bit a (suc (suc (suc zero))) h = refl
get_octet_bit a (suc (suc (suc (suc zero)))) h = refl
get_octet_bit a (suc (suc (suc (suc (suc zero))))) h = refl
get_octet_bit a (suc (suc (suc (suc (suc (suc zero)))))) h = refl
get_octet_bit a (suc (suc (suc (suc (suc (suc (suc zero))))))) h = refl
get_octet_bit a (suc (suc (suc (suc (suc (suc (suc (suc j)))))))) h = absurd (omega arith)

pub length-all_bits : (v : List ℕ) → length (flat_map octet_bits v) ≡ 8 * length v
length-all_bits [] = refl
length-all_bits (a ∷ v) = omega (arith, length-append (octet_bits a) (flat_map octet_bits v), length-octet_bits a, length-all_bits v)

pub length-bits : (v : BitsValue) → length (bits v) ≡ 8 * length v.octets - v.unused
unfolding bits
length-bits v = length-take-le (8 * length v.octets - v.unused) (flat_map octet_bits v.octets) (omega (arith, length-all_bits v.octets))

-- Bit i is bit 8 - (i mod 8) of octet i / 8.
get_all_bits : (v : List ℕ) (i : ℕ) → i / 8 < length v → get_or (flat_map octet_bits v) i false ≡ (get_or v (i / 8) 0 / 2 ^ (7 - i % 8) % 2 == 1)
get_all_bits v i h =
    let below : i % 8 < 8 = mod-lt i (omega arith) in
    let parts : 8 * (i / 8) + i % 8 ≡ i = div-add-mod i 8 in
    let front : length (take (i / 8) v) ≡ i / 8 = length-take-le (i / 8) v (omega arith) in
    let place : length (flat_map octet_bits (take (i / 8) v)) + i % 8 ≡ i = omega (arith, length-all_bits (take (i / 8) v)) in
    sym (ap (λ (k : ℕ). get_or (flat_map octet_bits v) k false) place)
    ∙ get_or-flat_map octet_bits v (i / 8) (i % 8) 0 false h (omega (arith, length-octet_bits (get_or v (i / 8) 0)))
    ∙ get_octet_bit (get_or v (i / 8) 0) (i % 8) below

pub bit_there : (v : BitsValue) (i : ℕ) → i < 8 * length v.octets - v.unused → (get_or v.octets (i / 8) 0 / 2 ^ (7 - i % 8) % 2 == 1) ≡ unwrap_or (slice_get (bits v) i) false
unfolding bits
bit_there v i h =
    let parts : 8 * (i / 8) + i % 8 ≡ i = div-add-mod i 8 in
    let all = flat_map octet_bits v.octets in
    sym (unwrap_or-slice_get (take (8 * length v.octets - v.unused) all) i false
    ∙ get_or-take (8 * length v.octets - v.unused) all i false h
    ∙ get_all_bits v.octets i (omega arith))

pub bit_past : (v : BitsValue) (i : ℕ) → length (bits v) ≤ i → false ≡ unwrap_or (slice_get (bits v) i) false
bit_past v i h = sym (unwrap_or-slice_get (bits v) i false ∙ get_or_past (bits v) i false h)
