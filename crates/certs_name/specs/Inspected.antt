-- What inspection reads of a name: which of its two attributes are there, in any order (RFC 6487 4.4, 4.5).
use Rattle.std.specs.Prelude.{◌≡◌, ℕ, ◌⊎◌, ◌+◌, Bool, true, false, List, [], ◌∷◌, encode_utf8}
use Rattle.certs_name.specs.bcder_tree.declared.mode.Mode.{Mode}
use Rattle.certs_name.specs.bcder_tree.Tags.{oid_tag, printable_string_tag, sequence_tag, set_tag, utf8_string_tag}
use Rattle.certs_name.specs.bcder_tree.Tree.{Tree, Trees}
use Rattle.certs_name.specs.bcder_tree.Strings.{IsPrintable}
use Rattle.certs_name.specs.bcder.Sets.{alone, IsUnicode}
use Rattle.certs_name.specs.bcder.Texts.{IsText}
use Rattle.certs_name.specs.bcder_content.Grammar.{As, End, Inside, OctetsOf, OneOf, Then}
use Rattle.certs_name.specs.bcder_content.Words.{Gathers}
use Rattle.certs_basics.specs.Identifiers.{common_name, serial_number}
use Rattle.certs_name.specs.declared.seen.Seen.{Seen}

-- Which attributes were seen.
abbrev pub seen_common : Seen
seen_common = record { common_name = true; serial_number = false }

abbrev pub seen_serial : Seen
seen_serial = record { common_name = false; serial_number = true }

-- The identifier of a commonName, or of a serialNumber.
abbrev pub IsKind : List ℕ → Seen → Type 0
IsKind octets s =
    ((octets ≡ common_name) × (s ≡ seen_common)) ⊎ ((octets ≡ serial_number) × (s ≡ seen_serial))

-- Content octets that are a text of the characters.
pub record IsTextOf (Has : ℕ → Type 0) (spell : ℕ → List ℕ) (content : List ℕ) (x : Unit {0})
    : Type 0 where
  pub is : IsText Has spell content

-- A primitive PrintableString; where not strict, a primitive UTF8String too.
abbrev pub IsPrintableValue : Tree → Unit {0} → Type 0
IsPrintableValue = OctetsOf printable_string_tag (IsTextOf IsPrintable alone)

abbrev pub IsUnicodeValue : Tree → Unit {0} → Type 0
IsUnicodeValue = OctetsOf utf8_string_tag (IsTextOf IsUnicode encode_utf8)

abbrev pub IsTextValue : Bool → Tree → Unit {0} → Type 0
IsTextValue true = IsPrintableValue
IsTextValue false = OneOf IsUnicodeValue IsPrintableValue

abbrev pub SeenFields : Type 0
SeenFields = Seen × (Unit {0} × Unit {0})

abbrev pub seen_fields : Seen → SeenFields
seen_fields s = (s, (tt, tt))

abbrev pub seen_of : SeenFields → Seen
seen_of f = f.0

abbrev pub IsSeenBody : Bool → Mode → Trees → SeenFields → Type 0
IsSeenBody strict m = Then (OctetsOf oid_tag IsKind) (Then (IsTextValue strict) End)

abbrev pub IsSeenAttribute : Bool → Tree → Seen → Type 0
IsSeenAttribute strict = As (Inside sequence_tag
    (Then (OctetsOf oid_tag IsKind) (Then (IsTextValue strict) End))) seen_of

-- How often.
abbrev pub times : Bool → ℕ
times true = 1
times false = 0

abbrev pub common_names : List Seen → ℕ
common_names [] = 0
common_names (s ∷ ss) = times s.common_name + common_names ss

abbrev pub serial_numbers : List Seen → ℕ
serial_numbers [] = 0
serial_numbers (s ∷ ss) = times s.serial_number + serial_numbers ss

-- Each attribute is there once at most, and which are there.
pub record Together (xs : List Seen) (s : Seen) : Type 0 where
  pub common : common_names xs ≡ times s.common_name
  pub serial : serial_numbers xs ≡ times s.serial_number

abbrev pub AreSeenAttributes : Bool → Trees → Seen → Type 0
AreSeenAttributes strict = Gathers (IsSeenAttribute strict) Together

abbrev pub IsSeenRelativeName : Bool → Tree → Seen → Type 0
IsSeenRelativeName strict = Inside set_tag (AreSeenAttributes strict)

abbrev pub AreSeenRelativeNames : Bool → Trees → Seen → Type 0
AreSeenRelativeNames strict = Gathers (IsSeenRelativeName strict) Together

abbrev pub IsSeenName : Bool → Tree → Seen → Type 0
IsSeenName strict = Inside sequence_tag (AreSeenRelativeNames strict)
