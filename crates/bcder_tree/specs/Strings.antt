-- OCTET STRING and restricted character strings, in each mode (X.690 8.7, 8.23, 9.2, 10.2; X.680 clause 41).
use Rattle.std.specs.Prelude.{◌≡◌, ℕ, ◌<◌, ◌≤◌, ◌⊎◌, ◌==◌, List, [], ◌++◌, length, codes, IsTrue}
use Rattle.std.specs.List.{list_any}
use Rattle.bcder_tree.specs.declared.mode.Mode.{Mode}
use Rattle.bcder_tree.specs.declared.mode.Mode.TheVariants.{Ber, Cer, Der}
use Rattle.bcder_tree.specs.Tags.{TagValue}
pub use Rattle.bcder_tree.specs.Tags.{octet_string_tag}
use Rattle.bcder_tree.specs.Tree.{Tree, Trees, primitive, constructed, none, more}

abbrev mutual
  -- BER: primitive, or segments that are OCTET STRINGs again, nested at will (8.7.3, 8.23.3).
  pub IsBerString : TagValue → Tree → List ℕ → Type 0
  IsBerString tag (primitive t v) octets = (t ≡ tag) × (v ≡ octets)
  IsBerString tag (constructed t ts) octets = (t ≡ tag) × AreSegments ts octets

  pub AreSegments : Trees → List ℕ → Type 0
  AreSegments none octets = octets ≡ []
  AreSegments (more t ts) octets =
      (a : List ℕ) × (b : List ℕ) × IsBerString octet_string_tag t a × AreSegments ts b
      × (octets ≡ a ++ b)

-- CER: primitive segments of 1000 octets, and a last one of 1 to 1000 (9.2).
abbrev pub AreCerSegments : Trees → List ℕ → Type 0
AreCerSegments none octets = ⊥
AreCerSegments (more t none) octets =
    (t ≡ primitive octet_string_tag octets) × (1 ≤ length octets) × (length octets ≤ 1000)
AreCerSegments (more t (more u ts)) octets =
    (a : List ℕ) × (b : List ℕ) × (t ≡ primitive octet_string_tag a) × (length a ≡ 1000)
    × AreCerSegments (more u ts) b × (octets ≡ a ++ b)

-- CER: primitive to 1000 octets, else in segments (9.2).
abbrev pub IsCerString : TagValue → Tree → List ℕ → Type 0
IsCerString tag (primitive t v) octets = (t ≡ tag) × (v ≡ octets) × (length v ≤ 1000)
IsCerString tag (constructed t ts) octets =
    (t ≡ tag) × AreCerSegments ts octets × (1000 < length octets)

-- The octets of a string with that tag, its own or an implicit one; in DER it is primitive (10.2).
abbrev pub IsString : Mode → TagValue → Tree → List ℕ → Type 0
IsString Ber tag t octets = IsBerString tag t octets
IsString Cer tag t octets = IsCerString tag t octets
IsString Der tag t octets = t ≡ primitive tag octets

abbrev pub IsOctetString : Mode → Tree → List ℕ → Type 0
IsOctetString m t octets = IsString m octet_string_tag t octets

abbrev pub IsLetter : ℕ → Type 0
IsLetter c = ((65 ≤ c) × (c ≤ 90)) ⊎ ((97 ≤ c) × (c ≤ 122))

abbrev pub IsDigit : ℕ → Type 0
IsDigit c = (48 ≤ c) × (c ≤ 57)

-- One of these characters.
abbrev pub IsOneOf : List ℕ → ℕ → Type 0
IsOneOf marks c = IsTrue (list_any (λ m. m == c) marks)

-- What a PrintableString has: letters, digits, space and some marks (X.680 41.4).
abbrev pub IsPrintable : ℕ → Type 0
IsPrintable c = IsLetter c ⊎ (IsDigit c ⊎ IsOneOf (codes " '()+,-./:=?") c)

-- What an IA5String has: 00 to 7F (X.680 41.1, table 8).
abbrev pub IsIa5 : ℕ → Type 0
IsIa5 c = c < 128
