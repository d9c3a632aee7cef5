-- Names of issuers and subjects, and what inspection asks of them (RFC 5280 4.1.2.4; RFC 6487 4.4, 4.5).
use Rattle.std.specs.Prelude.{◌≡◌, ℕ, ◌⊎◌, Bool, false, List, [], ◌∷◌, ◌/◌, ◌%◌, codes, slice_index, encode_utf8}
use Rattle.certs_basics.specs.bcder_tree.declared.mode.Mode.{Mode}
use Rattle.certs_basics.specs.bcder_tree.declared.mode.Mode.TheVariants.{Der}
use Rattle.certs_basics.specs.bcder_tree.Tags.{oid_tag, printable_string_tag, sequence_tag, set_tag, utf8_string_tag}
use Rattle.certs_basics.specs.bcder_tree.Tree.{Tree, primitive, constructed, none, more, Spells}
use Rattle.certs_basics.specs.bcder_tree.Sequences.{sequence}
use Rattle.certs_basics.specs.bcder_tree.Strings.{IsPrintable}
use Rattle.certs_basics.specs.bcder.Sets.{alone, IsUnicode}
use Rattle.certs_basics.specs.bcder.Restricted.{IsRestricted}
use Rattle.certs_basics.specs.bcder_content.Grammar.{Inside, OctetsOf, As, Then, End, Many}
use Rattle.certs_basics.specs.bcder_content.Kept.{CapturedValue}
use Rattle.certs_basics.specs.bcder.Identifiers.{IsOid}
use Rattle.certs_basics.specs.bcder_content.Words.{Itself}
use Rattle.certs_basics.specs.bcder_content.Texts.{SpellsOf}
use Rattle.certs_basics.specs.Lists.{joined}
use Rattle.certs_basics.specs.Identifiers.{common_name, serial_number}

-- AttributeTypeAndValue ::= SEQUENCE { type OBJECT IDENTIFIER, value ANY }
pub record Attribute : Type 0 where
  pub kind : List ℕ
  pub value : Tree

abbrev pub as_attribute : List ℕ × (Tree × Unit {0}) → Attribute
as_attribute x = record { kind = x.0; value = x.1.0 }

abbrev pub IsAttribute : Tree → Attribute → Type 0
IsAttribute =
    As (Inside sequence_tag (Then (OctetsOf oid_tag IsOid) (Then Itself End))) as_attribute

-- RelativeDistinguishedName ::= SET OF AttributeTypeAndValue
abbrev pub IsRelativeName : Tree → List Attribute → Type 0
IsRelativeName = Inside set_tag (Many IsAttribute)

-- Name ::= SEQUENCE OF RelativeDistinguishedName; it means all attributes, in their order (RFC 5280 4.1.2.4).
abbrev pub IsName : Tree → List Attribute → Type 0
IsName = As (Inside sequence_tag (Many IsRelativeName)) joined

-- A name is kept as octets and the mode in which they spell it.
pub record NameSays (name : CapturedValue) (all : List Attribute) : Type 0 where
  pub tree : Tree
  pub spelled : Spells name.mode tree name.octets
  pub is : IsName tree all

-- Such a value is kept.
pub record IsKeptName (m : Mode) (t : Tree) (name : CapturedValue) : Type 0 where
  pub mode : name.mode ≡ m
  pub spelled : Spells m t name.octets
  pub all : List Attribute
  pub is : IsName t all

-- A kept name by its octets, which in BER a value doesn't tell.
pub record SpellsName (m : Mode) (text : List ℕ) (name : CapturedValue) : Type 0 where
  pub same : name ≡ record { mode = m; octets = text }
  pub all : List Attribute
  pub is : SpellsOf m IsName text all

-- The attribute has that kind and is a primitive PrintableString; where not strict, a primitive UTF8String too.
pub record IsPlain (strict : Bool) (kind : List ℕ) (a : Attribute) : Type 0 where
  pub kind_is : a.kind ≡ kind
  pub text : List ℕ
  pub value_is : IsRestricted IsPrintable alone Der printable_string_tag a.value text
      ⊎ ((strict ≡ false) × IsRestricted IsUnicode encode_utf8 Der utf8_string_tag a.value text)

-- One commonName, at most one serialNumber, in any order, and nothing else (RFC 6487 4.4, 4.5).
abbrev pub AreRpki : Bool → List Attribute → Type 0
AreRpki strict [] = ⊥
AreRpki strict (a ∷ []) = IsPlain strict common_name a
AreRpki strict (a ∷ b ∷ []) =
    (IsPlain strict common_name a × IsPlain strict serial_number b)
    ⊎ (IsPlain strict serial_number a × IsPlain strict common_name b)
AreRpki strict (a ∷ b ∷ c ∷ _) = ⊥

pub record IsRpkiName (strict : Bool) (name : CapturedValue) : Type 0 where
  pub all : List Attribute
  pub says : NameSays name all
  pub are : AreRpki strict all

-- The lower-case hexadecimal digits of octets.
abbrev pub hex_text : List ℕ → List ℕ
hex_text [] = []
hex_text (a ∷ v) = slice_index (codes "0123456789abcdef") (a / 16)
    ∷ slice_index (codes "0123456789abcdef") (a % 16) ∷ hex_text v

-- The name made from a key's identifier: a commonName of its 40 hexadecimal digits (this project's choice).
abbrev pub subject_of : List ℕ → Tree
subject_of key_identifier = sequence (constructed set_tag
    (more (sequence (primitive oid_tag common_name
    ∷ primitive printable_string_tag (hex_text key_identifier) ∷ [])) none) ∷ [])
