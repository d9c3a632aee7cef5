-- The name that is made from the identifier of a key.
use Rattle.std.proofs.Common.{◌≡◌, ℕ, ◌+◌, ◌*◌, ◌/◌, ◌%◌, ◌<◌, Bool, true, false, List, [], ◌∷◌, length, refl, sym, ap, subst, arith}
use Rattle.std.specs.Prelude.{slice_index}
use Rattle.certs_name.specs.bcder_tree.declared.mode.Mode.TheVariants.{Der}
use Rattle.certs_name.specs.bcder_tree.Octets.{form_bit}
use Rattle.certs_name.specs.bcder_tree.Tags.{universal, oid_tag, printable_string_tag, sequence_tag, set_tag}
use Rattle.certs_name.specs.bcder_tree.Tree.{Tree, Trees, primitive, constructed, none, more, IsHeader, definite, Spells, SpellsAll}
use Rattle.certs_name.specs.bcder_values.Wraps.{one_spelled}
use Rattle.certs_name.specs.bcder.Identifiers.{IsIdentifier}
use Rattle.hex.specs.Hex.{encode_with, lower_digits}
use Rattle.certs_basics.specs.Identifiers.{common_name}
use Rattle.certs_basics.specs.Names.{Attribute, IsAttribute, IsName, IsRelativeName, hex_text, subject_of}
use Rattle.certs_name.specs.Named.{IsNamed}

-- A header of two octets.
header : (form : Bool) (first number size : ℕ) → first ≡ form_bit form + number → 0 < number → number < 31 → size < 128 → IsHeader Der (first ∷ size ∷ []) form (universal number) size
header form first number size e tagged low small = record {
  identifier = first ∷ [];
  size = size ∷ [];
  whole = refl;
  tag = (omega arith, omega arith);
  identifier_is = (omega arith, low);
  size_is = (small, refl);
}

wraps : (first number size : ℕ) (ts : Trees) (content : List ℕ) → first ≡ form_bit true + number → 0 < number → number < 31 → size < 128 → length content ≡ size → SpellsAll Der ts content → Spells Der (constructed (universal number) ts) (first ∷ size ∷ content)
wraps first number size ts content e tagged low small long spelled =
    (content, definite tt (first ∷ size ∷ []) (subst (IsHeader Der (first ∷ size ∷ []) true (universal number)) (sym long) (header true first number size e tagged low small)) refl, spelled)

holds : (number size : ℕ) (content : List ℕ) → 0 < number → number < 31 → size < 128 → length content ≡ size → Spells Der (primitive (universal number) content) (number ∷ size ∷ content)
holds number size content tagged low small long = record {
  header = number ∷ size ∷ [];
  header_is = subst (IsHeader Der (number ∷ size ∷ []) false (universal number)) (sym long) (header false number number size (omega arith) tagged low small);
  whole = refl;
}

-- Hexadecimal digits.
pub hex_is : (v : List ℕ) → encode_with lower_digits v ≡ hex_text v
unfolding encode_with
hex_is [] = refl
hex_is (a ∷ v) = ap (λ (w : List ℕ). slice_index lower_digits (a / 16) ∷ slice_index lower_digits (a % 16) ∷ w) (hex_is v)

hex_long : (v : List ℕ) → length (hex_text v) ≡ 2 * length v
hex_long [] = omega arith
hex_long (a ∷ v) = omega (arith, hex_long v)

-- The octets of the name.
abbrev pub key_name_octets : List ℕ → List ℕ
key_name_octets digits = 48 ∷ 51 ∷ 49 ∷ 49 ∷ 48 ∷ 47 ∷ 6 ∷ 3 ∷ 85 ∷ 4 ∷ 3 ∷ 19 ∷ 40 ∷ digits

abbrev value_of : List ℕ → Tree
value_of digits = primitive printable_string_tag digits

abbrev fields_of : List ℕ → Trees
fields_of digits = more (primitive oid_tag common_name) (more (value_of digits) none)

abbrev attribute_of : List ℕ → Tree
attribute_of digits = constructed sequence_tag (fields_of digits)

abbrev relative_of : List ℕ → Tree
relative_of digits = constructed set_tag (more (attribute_of digits) none)

pub key_name_spelled : (v : List ℕ) → length v ≡ 20 → Spells Der (subject_of v) (key_name_octets (hex_text v))
key_name_spelled v long =
    let digits = hex_text v in
    let forty : length digits ≡ 40 = omega (arith, hex_long v) in
    let value : Spells Der (value_of digits) (19 ∷ 40 ∷ digits) = holds 19 40 digits (omega arith) (omega arith) (omega arith) forty in
    let kind : Spells Der (primitive oid_tag common_name) (6 ∷ 3 ∷ common_name) = holds 6 3 common_name (omega arith) (omega arith) (omega arith) refl in
    let fields : SpellsAll Der (fields_of digits) (6 ∷ 3 ∷ 85 ∷ 4 ∷ 3 ∷ 19 ∷ 40 ∷ digits) =
    (6 ∷ 3 ∷ common_name, 19 ∷ 40 ∷ digits, kind, one_spelled Der (value_of digits) (19 ∷ 40 ∷ digits) value, refl) in
    let attribute : Spells Der (attribute_of digits) (48 ∷ 47 ∷ 6 ∷ 3 ∷ 85 ∷ 4 ∷ 3 ∷ 19 ∷ 40 ∷ digits) =
    wraps 48 16 47 (fields_of digits) (6 ∷ 3 ∷ 85 ∷ 4 ∷ 3 ∷ 19 ∷ 40 ∷ digits) refl (omega arith) (omega arith) (omega arith) (omega arith) fields in
    let relative : Spells Der (relative_of digits) (49 ∷ 49 ∷ 48 ∷ 47 ∷ 6 ∷ 3 ∷ 85 ∷ 4 ∷ 3 ∷ 19 ∷ 40 ∷ digits) =
    wraps 49 17 49 (more (attribute_of digits) none) (48 ∷ 47 ∷ 6 ∷ 3 ∷ 85 ∷ 4 ∷ 3 ∷ 19 ∷ 40 ∷ digits) refl (omega arith) (omega arith) (omega arith) (omega arith) (one_spelled Der (attribute_of digits) _ attribute) in
    wraps 48 16 51 (more (relative_of digits) none) (49 ∷ 49 ∷ 48 ∷ 47 ∷ 6 ∷ 3 ∷ 85 ∷ 4 ∷ 3 ∷ 19 ∷ 40 ∷ digits) refl (omega arith) (omega arith) (omega arith) (omega arith) (one_spelled Der (relative_of digits) _ relative)

identifier : IsIdentifier common_name
identifier = record { front = 85 ∷ 4 ∷ []; last = 3; whole = refl; ends = omega arith }

is_attribute : (digits : List ℕ) → IsAttribute (attribute_of digits) (record { kind = common_name; value = value_of digits })
is_attribute digits = record {
  x = (common_name, (value_of digits, tt));
  is = record {
    values = fields_of digits;
    whole = refl;
    is = record {
      first = primitive oid_tag common_name;
      others = more (value_of digits) none;
      whole = refl;
      is = record { content = common_name; whole = refl; is = record { same = refl; is = identifier } };
      rest = record { first = value_of digits; others = none; whole = refl; is = record { same = refl }; rest = record { ended = refl } };
    };
  };
  means = refl;
}

is_relative : (digits : List ℕ) → IsRelativeName (relative_of digits) (record { kind = common_name; value = value_of digits } ∷ [])
is_relative digits = record { values = more (attribute_of digits) none; whole = refl; is = record { cases = (attribute_of digits, none, refl, is_attribute digits, refl) } }

-- The one attribute of the name.
abbrev pub key_attribute : List ℕ → Attribute
key_attribute v = record { kind = common_name; value = value_of (hex_text v) }

pub is_name : (v : List ℕ) → IsName (subject_of v) (key_attribute v ∷ [])
is_name v =
    let digits = hex_text v in
    let attribute : Attribute = record { kind = common_name; value = value_of digits } in
    record {
      x = (attribute ∷ []) ∷ [];
      is = record { values = more (relative_of digits) none; whole = refl; is = record { cases = (relative_of digits, none, refl, is_relative digits, refl) } };
      means = refl;
    }

pub key_name : (v : List ℕ) → length v ≡ 20 → IsNamed (record { mode = Der; octets = key_name_octets (hex_text v) })
key_name v long = record { all = record { kind = common_name; value = value_of (hex_text v) } ∷ []; says = record { tree = subject_of v; spelled = key_name_spelled v long; is = is_name v } }
