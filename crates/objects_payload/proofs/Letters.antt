-- The base 64 of the standard engine is that of RFC 4648 4.
use Rattle.std.proofs.Common.{◌≡◌, ◌<◌, ℕ, zero, suc, List, Result, Ok, Err, [], ◌∷◌, ◌++◌, length, replicate, refl, sym, ap, ◌∙◌, subst, append_assoc, arith, All}
use Rattle.std.proofs.lemmas.List.Elements.{All-head, All-tail, All-from_get_or}
use Rattle.base64.specs.Rfc4648.{encode_symbols, encode_group, padding_len}
use Rattle.base64.specs.Engines.{standard}
use Rattle.base64.specs.GeneralPurpose.{encode_of, decode_of, IsBytes, IsStrict, IsDecodeFailure}
use Rattle.base64.specs.declared.decode.DecodeError.{DecodeError}
use Rattle.base64.specs.declared.decode.DecodeAllocError.{DecodeAllocError}
use Rattle.base64.specs.declared.decode.DecodeAllocError.TheVariants.{DecodeError as Failed}
use Rattle.objects_payload.specs.Locators.{base64}
use Rattle.std.specs.Prelude.{codes}

abbrev table : List ℕ
table = codes "ABCDEFGHIJKLMNOPQRSTUVWXYZabcdefghijklmnopqrstuvwxyz0123456789+/"

padding_same : (n : ℕ) → padding_len (suc (suc (suc n))) ≡ padding_len n
padding_same n = omega arith

symbols_are : (v : List ℕ) → encode_symbols table v ++ replicate (padding_len (length v)) 61 ≡ base64 v
unfolding encode_symbols
symbols_are [] = refl
symbols_are (a ∷ []) = refl
symbols_are (a ∷ b ∷ []) = refl
symbols_are (a ∷ b ∷ c ∷ v) =
    append_assoc (encode_group table a b c) (encode_symbols table v) (replicate (padding_len (suc (suc (suc (length v))))) 61)
    ∙ ap (λ n. encode_group table a b c ++ (encode_symbols table v ++ replicate n 61)) (padding_same (length v))
    ∙ ap (λ (z : List ℕ). encode_group table a b c ++ z) (symbols_are v)

pub encoded_is : (v : List ℕ) → encode_of standard v ≡ base64 v
encoded_is v = symbols_are v

pub are_octets : (v : List ℕ) → IsBytes v → All (λ a. a < 256) v
are_octets v h = All-from_get_or (λ a. a < 256) v 0 (λ i k. h i)

pub is_strict : IsStrict standard
is_strict = (refl, refl)

pub are_bytes : (v : List ℕ) → All (λ a. a < 256) v → IsBytes v
are_bytes [] h i = omega arith
are_bytes (a ∷ v) h zero = All-head (λ a. a < 256) a v h
are_bytes (a ∷ v) h (suc i) = are_bytes v (All-tail (λ a. a < 256) a v h) i

-- One answer.
pub same_ok : {A E : Type 0} (r : Result A E) (v w : A) → r ≡ Ok v → r ≡ Ok w → v ≡ w
same_ok r v w e f = let t : Ok v ≡ Ok w = sym e ∙ f in cc

pub not_both : {A E : Type 0} (r : Result A E) (v : A) (d : E) → r ≡ Ok v → r ≡ Err d → ⊥
not_both r v d e f = let t : Ok v ≡ Err d = sym e ∙ f in absurd cc

pub decode_fails : (letters : List ℕ) (e : DecodeAllocError) (d : DecodeError) → e ≡ Failed d → IsDecodeFailure standard letters e → decode_of standard letters ≡ Err d
decode_fails letters e d i f = subst (λ (z : DecodeAllocError). IsDecodeFailure standard letters z) i f
