-- Identifiers of keys, read and shown.
use Rattle.std.proofs.Common.{◌≡◌, ℕ, ◌<◌, List, [], ◌∷◌, ◌/◌, ◌%◌, slice_index, Result, Ok, Err, IsErr, refl, sym, ap, ◌∙◌, subst, arith}
use Rattle.std.specs.Prelude.{IsErrAnd, IsAscii}
use Rattle.certs_key.specs.bcder_tree.declared.mode.Mode.{Mode}
use Rattle.certs_key.specs.bcder_tree.Tags.{TagValue}
use Rattle.certs_key.specs.bcder_tree.Strings.{IsString}
use Rattle.certs_key.specs.bcder_source.declared.error.DecodeError.{DecodeError}
use Rattle.certs_key.specs.bcder_content.declared.content.Content.{Content}
use Rattle.certs_key.specs.bcder_content.Here.{here}
use Rattle.certs_key.specs.bcder_content.Either.{SameContent}
use Rattle.certs_key.specs.bcder_content.Tagged.{ReadsTagged}
use Rattle.certs_key.proofs.of_bcder_content.Tagged.{HasTag}
use Rattle.certs_key.proofs.of_bcder_content.Within.{Within, content_gives, content_stop, content_unfit}
use Rattle.certs_key.proofs.of_bcder_octets.Meaning.{one_string}
use Rattle.certs_key.proofs.of_bcder_octets.Strings.{string_tagged}
use Rattle.certs_key.specs.certs_basics.Basics.{IsTwentyLong, IsKeyIdentifier}
use Rattle.certs_key.specs.certs_basics.Names.{hex_text}
use Rattle.hex.specs.Hex.{encode_with, encode_lower, lower_digits}
use Rattle.hex.proofs.HexLemmas.{IsAscii-encode_with}
use Rattle.std.proofs.lemmas.Str.Ascii.{IsAscii-nil, IsAscii-cons}

-- An identifier has the tag that it is read with,
pub identifier_tagged : HasTag IsKeyIdentifier
identifier_tagged = record { has = λ m tag t x p. string_tagged.has m tag t x p.is }

-- and is a string.
is_string : (m : Mode) (tag : TagValue) → Within (IsKeyIdentifier m tag) (IsString m tag)
is_string m tag t x p = (x, p.is)

-- Twenty octets were read.
pub identifier_given : {S E : Type 0} {rest : S → List ℕ} {old new : Content S} {x y : List ℕ} → ReadsTagged {A = List ℕ} {S = S} {E = E} rest (λ x. x) IsString old (Ok x) new → IsTwentyLong x → y ≡ x
    → ReadsTagged {S = S} {E = E} rest (λ v. v) IsKeyIdentifier old (Ok y) new
identifier_given {S} {E} {rest} {old} {new} {x} h long e = subst (λ (z : List ℕ). ReadsTagged {S = S} {E = E} rest (λ v. v) IsKeyIdentifier old (Ok z) new) (sym e) (record {
  same = h.same;
  reads = λ tag. let m = (here rest old.values.now).mode in
      content_gives E (λ (v : List ℕ). v) (λ (v : List ℕ). v) (IsString m tag) (IsKeyIdentifier m tag) old.values.now.constructed tag (here rest old.values.now) (here rest new.values.now)
      (λ t is. record { is = is; meets = long }) (is_string m tag) (h.reads tag);
})

-- No string is there.
pub identifier_stopped : {S E : Type 0} {rest : S → List ℕ} {old new : Content S} (r : Result (List ℕ) (DecodeError E)) {e : DecodeError E} → IsErr r × IsErrAnd r (λ x. x ≡ e)
    → ReadsTagged {A = List ℕ} rest (λ x. x) IsString old (Err e) new → ReadsTagged rest (λ v. v) IsKeyIdentifier old r new
identifier_stopped {rest = rest} {old} {new} r {e} a h = record {
  same = h.same;
  reads = λ tag. let m = (here rest old.values.now).mode in
      content_stop (λ (v : List ℕ). v) (λ (v : List ℕ). v) (IsString m tag) (IsKeyIdentifier m tag) old.values.now.constructed tag (here rest old.values.now) (here rest new.values.now)
      r e a (is_string m tag) (h.reads tag);
}

-- A string is there that isn't so long.
pub identifier_refused : {S E : Type 0} {rest : S → List ℕ} {old mid new : Content S} {x : List ℕ} (e : DecodeError E) → (IsTwentyLong x → ⊥) → SameContent mid new
    → ReadsTagged {A = List ℕ} {S = S} {E = E} rest (λ x. x) IsString old (Ok x) mid → ReadsTagged {S = S} {E = E} rest (λ v. v) IsKeyIdentifier old (Err e) new
identifier_refused {rest = rest} {old} {mid} {new} {x} e never same h = record {
  same = record { reference = h.same.reference ∙ same.reference };
  reads = λ tag. let m = (here rest old.values.now).mode in
      content_unfit (λ (v : List ℕ). v) (λ (v : List ℕ). v) (IsString m tag) (IsKeyIdentifier m tag) old.values.now.constructed tag (here rest old.values.now) (here rest mid.values.now) (here rest new.values.now)
      e (λ t z p is. never (subst IsTwentyLong (sym (one_string m tag t x z is p.is)) p.meets)) (is_string m tag) (h.reads tag);
}

-- Hexadecimal digits.
pub hex_is : (v : List ℕ) → encode_with lower_digits v ≡ hex_text v
unfolding encode_with
hex_is [] = refl
hex_is (a ∷ v) = ap (λ w. slice_index lower_digits (a / 16) ∷ slice_index lower_digits (a % 16) ∷ w) (hex_is v)

-- The digits are ASCII.
abbrev AllSmall : List ℕ → Type 0
AllSmall [] = Unit {0}
AllSmall (c ∷ v) = (c < 128) × AllSmall v

small_ascii : (v : List ℕ) → AllSmall v → IsAscii v
small_ascii [] h = IsAscii-nil
small_ascii (c ∷ v) h = IsAscii-cons c v h.0 (small_ascii v h.1)

ascii_digits : IsAscii lower_digits
ascii_digits = small_ascii lower_digits (omega arith, (omega arith, (omega arith, (omega arith, (omega arith, (omega arith, (omega arith, (omega arith, (omega arith, (omega arith, (omega arith, (omega arith, (omega arith, (omega arith, (omega arith, (omega arith, tt))))))))))))))))

pub hex_ascii : (v : List ℕ) → IsAscii (encode_lower v)
hex_ascii v = IsAscii-encode_with lower_digits v ascii_digits
