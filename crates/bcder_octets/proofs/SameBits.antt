-- The unused bits aren't among the bits.
use Rattle.std.proofs.Common.{◌≡◌, ℕ, zero, suc, ◌+◌, ◌-◌, ◌*◌, ◌/◌, ◌%◌, ◌^◌, ◌<◌, ◌≤◌, ◌==◌, false, List, [], ◌∷◌, length, get_or, refl, sym, ap, ◌∙◌, arith}
use Rattle.std.proofs.Math.Nat.{div-add-mod, div-div-eq-div-mul, mul-div-mul_left, mod-lt}
use Rattle.std.proofs.lemmas.Nat.{pow_pos, pow-add}
use Rattle.std.proofs.lemmas.List.{ext_get_or}
use Rattle.std.proofs.lemmas.Option.{unwrap_or-slice_get}
use Rattle.bcder_octets.specs.bcder_tree.declared.mode.Mode.{Mode}
use Rattle.bcder_octets.specs.bcder_tree.declared.mode.Mode.TheVariants.{Ber, Cer, Der}
use Rattle.bcder_octets.specs.Bits.{BitsValue, IsBits, bits}
use Rattle.bcder_octets.specs.BitContents.{cleared, padded_in}
use Rattle.bcder_octets.proofs.BitLists.{length-bits, bit_there}
use Rattle.bcder_octets.proofs.BitWritings.{length-cleared}

-- What is above the unused bits stays.
clear_above : (u k a : ℕ) → u ≤ k → (a - a % 2 ^ u) / 2 ^ k ≡ a / 2 ^ k
clear_above u k a h =
    let parts = div-add-mod a (2 ^ u) in
    let whole : a - a % 2 ^ u ≡ 2 ^ u * (a / 2 ^ u) = omega (arith, parts) in
    let power : 2 ^ k ≡ 2 ^ u * 2 ^ (k - u) = ap (λ (n : ℕ). 2 ^ n) (omega arith) ∙ pow-add 2 u (k - u) in
    ap (λ (n : ℕ). n / 2 ^ k) whole
    ∙ ap (λ (n : ℕ). 2 ^ u * (a / 2 ^ u) / n) power
    ∙ mul-div-mul_left (a / 2 ^ u) (2 ^ (k - u)) (pow_pos u)
    ∙ div-div-eq-div-mul a (2 ^ u) (2 ^ (k - u))
    ∙ ap (λ (n : ℕ). a / n) (sym power)

-- In each octet, but in the last one above the unused bits alone.
same_above : (u : ℕ) (v : List ℕ) (j k : ℕ) → j < length v → (j + 1 ≡ length v → u ≤ k) → get_or (cleared u v) j 0 / 2 ^ k ≡ get_or v j 0 / 2 ^ k
same_above u [] j k h last = absurd (omega arith)
same_above u (a ∷ []) zero k h last = clear_above u k a (last refl)
same_above u (a ∷ []) (suc j) k h last = absurd (omega arith)
same_above u (a ∷ b ∷ v) zero k h last = refl
same_above u (a ∷ b ∷ v) (suc j) k h last = same_above u (b ∷ v) j k (omega arith) (λ e. last (omega arith))

cleared_bits : (v w : BitsValue) → v.unused < 8 → w.unused ≡ v.unused → w.octets ≡ cleared v.unused v.octets → bits w ≡ bits v
cleared_bits v w few same octets = ext_get_or false (bits w) (bits v) lengths each
  where
    count : length w.octets ≡ length v.octets
    count = ap length octets ∙ length-cleared v.unused v.octets

    lengths : length (bits w) ≡ length (bits v)
    lengths = omega (arith, length-bits w, length-bits v, count, same)

    each : (i : ℕ) → i < length (bits w) → get_or (bits w) i false ≡ get_or (bits v) i false
    each i h =
        let below : i < 8 * length v.octets - v.unused = omega (arith, length-bits w, count, same) in
        let below_w : i < 8 * length w.octets - w.unused = omega (arith, length-bits w) in
        let parts = div-add-mod i 8 in
        let rest : i % 8 < 8 = mod-lt i (omega arith) in
        let one = same_above v.unused v.octets (i / 8) (7 - i % 8) (omega arith) (λ e. omega arith) in
        sym (bit_there w i below_w ∙ unwrap_or-slice_get (bits w) i false)
        ∙ ap (λ (l : List ℕ). get_or l (i / 8) 0 / 2 ^ (7 - i % 8) % 2 == 1) octets
        ∙ ap (λ (n : ℕ). n % 2 == 1) one
        ∙ bit_there v i below ∙ unwrap_or-slice_get (bits v) i false

pub padded_bits : (m : Mode) (v : BitsValue) → IsBits v → bits (padded_in m v) ≡ bits v
padded_bits Ber v is = refl
padded_bits Cer v is = cleared_bits v (padded_in Cer v) is.few refl refl
padded_bits Der v is = cleared_bits v (padded_in Der v) is.few refl refl
