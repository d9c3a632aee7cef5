-- Unused bits that are zero (X.690 11.2.1): nothing is cleared of them, so that a key which has such is read again as it is.
use Rattle.std.proofs.Common.{◌≡◌, ℕ, ◌-◌, ◌%◌, ◌^◌, List, [], ◌∷◌, Result, Ok, Err, IfOk, refl, ap, arith}
use Rattle.certs_key.specs.bcder_source.declared.error.DecodeError.{DecodeError}
use Rattle.certs_key.specs.bcder_tree.declared.mode.Mode.TheVariants.{Der}
use Rattle.certs_key.specs.bcder_octets.Bits.{BitsValue}
use Rattle.certs_key.specs.bcder_octets.BitContents.{IsPadded, cleared, last_octet, padded_in}
use Rattle.certs_key.specs.bcder_content.Exact.{DecodesAs}
use Rattle.certs_key.specs.certs_basics.Keys.{IsKey, KeyValue}
use Rattle.certs_key.specs.Cleared.{key_again}

-- Octets whose last one has no unused bits that are set have none to clear.
not_cleared : (unused : ℕ) (octets : List ℕ) → last_octet octets % 2 ^ unused ≡ 0 → cleared unused octets ≡ octets
not_cleared unused [] p = refl
not_cleared unused (a ∷ []) p = let same : a - a % 2 ^ unused ≡ a = omega (arith, p) in ap (λ n. n ∷ []) same
not_cleared unused (a ∷ b ∷ octets) p = ap (λ (l : List ℕ). a ∷ l) (not_cleared unused (b ∷ octets) p)

pub padded_same : (v : BitsValue) → IsPadded Der v → padded_in Der v ≡ v
padded_same v p = ap (λ (o : List ℕ). (let bits : BitsValue = record { unused = v.unused; octets = o } in bits)) (not_cleared v.unused v.octets p)

pub key_stays : (k : KeyValue) → IsPadded Der k.bits → key_again Der k ≡ k
key_stays k p = ap (λ (b : BitsValue). (let key : KeyValue = record { format = k.format; bits = b } in key)) (padded_same k.bits p)

-- A key that is read in DER has such bits.
pub decoded_padded : {E : Type 0} (octets : List ℕ) (r : Result KeyValue (DecodeError E)) → DecodesAs (λ k. k) Der (IsKey Der) octets r → IfOk r (λ k. IsPadded Der k.bits)
decoded_padded octets (Ok k) p = p.3.is.are.rest.is.is.padded
decoded_padded octets (Err e) p = tt
