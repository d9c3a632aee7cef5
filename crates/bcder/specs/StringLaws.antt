-- Laws of the sets: a character has octets, one stands in front at most, and octets tell one text.
use Rattle.std.proofs.Common.{◌≡◌, ℕ, ◌<◌, ◌≤◌, inl, inr, true, List, [], ◌∷◌, ◌++◌, length, refl, sym, ap, ◌∙◌, arith, lit≤}
use Rattle.std.specs.Prelude.{encode_utf8, encode_utf8_all, codes, chars, flat_map, All}
use Rattle.std.specs.Str.{all_scalars}
use lib.Utf8.{scalar}
use Rattle.std.proofs.lemmas.Str.{length-encode, len_utf8_bounds, encode_same, chars-encodes}
use Rattle.std.proofs.lemmas.Bool.{and_from}
use Rattle.std.proofs.lemmas.List.{map-id}
use Rattle.std.proofs.lemmas.List.Concat.{flat_map_single}
use Rattle.std.proofs.lemmas.List.Elements.{All-head, All-tail}
use Rattle.std.proofs.lemmas.Bool.Decides.{nat_tests}
use Rattle.bcder.specs.bcder_tree.Strings.{IsOneOf}
use Rattle.bcder.specs.Sets.{IsUnicode, IsNumeric, IsPrintable, IsIa5, alone}
use Rattle.bcder.specs.Texts.{Tells, HasOneStart}

pub alone_some : (Has : ℕ → Type 0) (c : ℕ) → Has c → 1 ≤ length (alone c)
alone_some Has c h = lit≤ tt

pub alone_one : {Has : ℕ → Type 0} → HasOneStart Has alone
alone_one = record {
  char = λ octets a b x y s t. let e : a ∷ x ≡ b ∷ y = sym s.spelled ∙ t.spelled in cc;
  behind = λ octets a b x y s t. let e : a ∷ x ≡ b ∷ y = sym s.spelled ∙ t.spelled in cc;
}

pub utf8_some : (c : ℕ) → IsUnicode c → 1 ≤ length (encode_utf8 c)
utf8_some c h = omega (arith, length-encode c, len_utf8_bounds c)

pub utf8_one : HasOneStart IsUnicode encode_utf8
utf8_one = record {
  char = λ octets a b x y s t. (encode_same a b x y (sym s.spelled ∙ t.spelled)).0;
  behind = λ octets a b x y s t. (encode_same a b x y (sym s.spelled ∙ t.spelled)).1;
}

-- Where each character is one octet, these are the text.
pub alone_told : {Has : ℕ → Type 0} (octets told : List ℕ) → Tells Has alone octets told
    → octets ≡ told
alone_told octets told t = sym t.spelled ∙ flat_map_single (λ (x : ℕ). x) told ∙ map-id told

pub all_are_scalars : (cs : List ℕ) → All IsUnicode cs → all_scalars cs ≡ true
all_are_scalars [] h = refl
all_are_scalars (c ∷ cs) h = and_from (scalar c) (all_scalars cs) (All-head IsUnicode c cs h)
    (all_are_scalars cs (All-tail IsUnicode c cs h))

pub joined : (cs : List ℕ) → flat_map encode_utf8 cs ≡ encode_utf8_all cs
joined [] = refl
joined (c ∷ cs) = ap (λ (l : List ℕ). encode_utf8 c ++ l) (joined cs)

pub utf8_told : (octets told : List ℕ) → Tells IsUnicode encode_utf8 octets told
    → chars octets ≡ told
utf8_told octets told t =
    ap chars (sym t.spelled ∙ joined told) ∙ chars-encodes told (all_are_scalars told t.has)

-- The sets of one octet a character are of ASCII.
pub numeric_ascii : (c : ℕ) → IsNumeric c → c < 128
numeric_ascii c (inl d) = omega arith
numeric_ascii c (inr e) = omega arith

pub ia5_ascii : (c : ℕ) → IsIa5 c → c < 128
ia5_ascii c h = h

mark_ascii : (c : ℕ) → IsOneOf (codes " '()+,-./:=?") c → c < 128
mark_ascii c h = grind (arith, nat_tests)

pub printable_ascii : (c : ℕ) → IsPrintable c → c < 128
printable_ascii c (inl (inl h)) = omega arith
printable_ascii c (inl (inr h)) = omega arith
printable_ascii c (inr (inl h)) = omega arith
printable_ascii c (inr (inr h)) = mark_ascii c h
