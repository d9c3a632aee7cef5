-- The segments in which a string is written in CER (X.690 9.2).
use Rattle.std.proofs.Common.{◌≡◌, ℕ, List, [], ◌∷◌, length, take, drop, zero, suc, Bool, true, false}
use Rattle.std.specs.Prelude.{nat_lt}
use Rattle.bcder_octets.specs.bcder_tree.declared.mode.Mode.{Mode}
use Rattle.bcder_octets.specs.bcder_tree.declared.mode.Mode.TheVariants.{Ber, Cer, Der}
use Rattle.bcder_octets.specs.bcder_tree.Tags.{TagValue}
use Rattle.bcder_octets.specs.bcder_tree.Tree.{Trees}
use Rattle.bcder_octets.specs.bcder_tree.Strings.{octet_string_tag}
use Rattle.bcder_octets.specs.bcder_primitive.Values.{AnyOctets}
use Rattle.bcder_octets.specs.bcder_primitive.Encoded.{IsPlain, WritesPlain, IsWrapped, WritesWrapped, SpellsSome}
use Rattle.bcder_values.specs.Lists.{AreAll, WritesAll, all_spelled, all_one}
use Rattle.bcder_values.specs.Plains.{plain_spelled, plain_one}
use Rattle.bcder_octets.specs.bcder_primitive.Simple.{one_string}
use Rattle.bcder_values.specs.Wraps.{wrapped_spelled, wrapped_one}

-- The octets in rows of 1000, and a last one of 1 to 1000; at most so many rows.
unfoldable pub rows : ℕ → List ℕ → List (List ℕ)
rows zero octets = []
rows (suc most) [] = []
rows (suc most) (a ∷ octets) = take 1000 (a ∷ octets) ∷ rows most (drop 1000 (a ∷ octets))

unfoldable pub segments : List ℕ → List (List ℕ)
segments octets = rows (length octets) octets

-- One segment: a primitive OCTET STRING with these octets.
abbrev pub IsSegment : List ℕ → Trees → Type 0
IsSegment octets = IsPlain octet_string_tag (λ content. AnyOctets content octets)

abbrev pub WritesSegment : Mode → List ℕ → List ℕ → Type 0
WritesSegment m octets = WritesPlain m octet_string_tag (λ content. AnyOctets content octets)

-- All segments of a string.
abbrev pub AreSegmentsOf : List ℕ → Trees → Type 0
AreSegmentsOf octets = AreAll IsSegment (segments octets)

abbrev pub WritesSegments : Mode → List ℕ → List ℕ → Type 0
WritesSegments m octets = WritesAll (WritesSegment m) (segments octets)

pub segments_spelled : (m : Mode) (octets text : List ℕ) → WritesSegments m octets text
    → SpellsSome m (AreSegmentsOf octets) text
segments_spelled m octets = all_spelled m (λ s. plain_spelled m) (segments octets)

pub segments_one : (m : Mode) (octets a b : List ℕ) → WritesSegments m octets a
    → WritesSegments m octets b → a ≡ b
segments_one m octets = all_one (λ s. plain_one m (one_string s)) (segments octets)

-- Whether a string is written in segments: in CER, where it has more than 1000 octets.
abbrev pub is_cut : Mode → List ℕ → Bool
is_cut Ber octets = false
is_cut Cer octets = nat_lt 1000 (length octets)
is_cut Der octets = false

abbrev pub FormTrees : Bool → TagValue → List ℕ → Trees → Type 0
FormTrees false tag octets = IsPlain tag (λ content. AnyOctets content octets)
FormTrees true tag octets = IsWrapped tag (AreSegmentsOf octets)

abbrev pub FormTexts : Bool → Mode → TagValue → List ℕ → List ℕ → Type 0
FormTexts false m tag octets = WritesPlain m tag (λ content. AnyOctets content octets)
FormTexts true m tag octets = WritesWrapped m tag (WritesSegments m octets)

-- A string with that tag, as it is written: primitive, or in CER in segments where it has more than 1000 octets
-- (8.7, 9.2, 10.2).
abbrev pub StringTrees : Mode → TagValue → List ℕ → Trees → Type 0
StringTrees m tag octets = FormTrees (is_cut m octets) tag octets

abbrev pub WritesString : Mode → TagValue → List ℕ → List ℕ → Type 0
WritesString m tag octets = FormTexts (is_cut m octets) m tag octets

form_spelled : (b : Bool) (m : Mode) (tag : TagValue) (octets text : List ℕ)
    → FormTexts b m tag octets text → SpellsSome m (FormTrees b tag octets) text
form_spelled false m tag octets text w = plain_spelled m text w
form_spelled true m tag octets text w = wrapped_spelled m (segments_spelled m octets) text w

form_one : (c : Bool) (m : Mode) (tag : TagValue) (octets a b : List ℕ) → FormTexts c m tag octets a
    → FormTexts c m tag octets b → a ≡ b
form_one false m tag octets a b = plain_one m (one_string octets) a b
form_one true m tag octets a b = wrapped_one m (segments_one m octets) a b

-- That what is written spells the string, and is always the same.
pub string_spelled : (m : Mode) (tag : TagValue) (octets text : List ℕ)
    → WritesString m tag octets text → SpellsSome m (StringTrees m tag octets) text
string_spelled m tag octets = form_spelled (is_cut m octets) m tag octets

pub string_one : (m : Mode) (tag : TagValue) (octets a b : List ℕ) → WritesString m tag octets a
    → WritesString m tag octets b → a ≡ b
string_one m tag octets = form_one (is_cut m octets) m tag octets
