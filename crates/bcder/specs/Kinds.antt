-- The forms of the codec's own types, with a tag that is given (an implicit tag, X.690 8.14), and with their own.
use Rattle.std.proofs.Common.{◌≡◌, ℕ, Bool, true, false, List, ap, subst, sym, ◌∙◌}
use Rattle.std.specs.Prelude.{ℤ, pos, unsigned_abs}
use Rattle.bcder_octets.specs.bcder_tree.declared.mode.Mode.{Mode}
use Rattle.bcder_octets.specs.bcder_tree.declared.mode.Mode.TheVariants.{Ber, Cer, Der}
use Rattle.bcder_octets.specs.bcder_tree.Tags.{TagValue, universal, boolean_tag, integer_tag, null_tag, oid_tag}
use Rattle.bcder_octets.specs.bcder_tree.Strings.{IsString, octet_string_tag}
use Rattle.bcder_octets.specs.bcder_tree.Tree.{Tree, primitive, constructed}
use Rattle.bcder_octets.specs.bcder_primitive.Values.{AnyOctets, IsBoolean, IsNull, IsTruth, IsUnsigned}
use Rattle.bcder.specs.Identifiers.{AreOctets, IsOid, IsIdentifier}
use Rattle.bcder_number.specs.Integers.{IsInteger, IsNatural}
use Rattle.bcder_number.specs.Contents.{one_integer, one_number}
use Rattle.bcder_octets.specs.Bits.{BitsValue}
use Rattle.bcder_octets.specs.BitContents.{IsBitString, WritesBits, padded_in}
use Rattle.bcder_octets.specs.BitsWritten.{one_bits}
use Rattle.bcder_octets.proofs.BitReadings.{bit_string_one}
use Rattle.bcder.specs.bcder_octets.Segments.{StringTrees, WritesString, string_spelled, string_one}
use Rattle.bcder_octets.proofs.Written.{written_string}
use Rattle.bcder_octets.proofs.Meaning.{one_string as one_octets}
use Rattle.bcder_octets.specs.bcder_content.Contents.{tag_of}
use Rattle.bcder_octets.proofs.of_bcder_content.Simple.{boolean_one, unit_one}
use Rattle.bcder_octets.proofs.of_bcder_content.Unique.{unsigned_one}
use Rattle.bcder_octets.specs.bcder_values.Forms.{Form, plain}
use Rattle.bcder_octets.specs.bcder_primitive.Integers.{WritesUnsigned, one_unsigned}
use Rattle.bcder_octets.specs.bcder_primitive.Simple.{one_boolean, one_null, one_string}

-- In each mode the octet that is written of a BOOLEAN is one of it (X.690 8.2, 11.1).
pub der_truth : (m : Mode) (a : ℕ) (x : Bool) → IsTruth Der a x → IsTruth m a x
der_truth m a false p = p
der_truth Ber a true p = λ zero. let t = sym p ∙ zero in cc
der_truth Cer a true p = p
der_truth Der a true p = p

abbrev pub boolean_at : TagValue → Form Bool
boolean_at tag = plain tag (record {
  reads = IsBoolean;
  lawful = λ x. Unit {0};
  again = λ m x. x;
  writes = λ x m content. IsBoolean Der content x;
  one_content = λ x m. one_boolean x;
  is_read = λ x m content l v. record {
    octet = v.octet;
    whole = v.whole;
    truth = der_truth m v.octet x v.truth;
  };
  one_meaning = boolean_one;
})

abbrev pub null_at : TagValue → Form (Unit {0})
null_at tag = plain tag (record {
  reads = λ m. IsNull;
  lawful = λ x. Unit {0};
  again = λ m x. x;
  writes = λ x m content. IsNull content x;
  one_content = λ x m. one_null x;
  is_read = λ x m content l v. v;
  one_meaning = λ m. unit_one;
})

-- An INTEGER from 0 up below a bound, as u8 to u128 have it.
abbrev pub unsigned_at : ℕ → TagValue → Form ℕ
unsigned_at bound tag = plain tag (record {
  reads = λ m. IsUnsigned bound;
  lawful = λ x. Unit {0};
  again = λ m x. x;
  writes = λ x m. WritesUnsigned bound x;
  one_content = λ x m. one_unsigned x;
  is_read = λ x m content l v. v.is;
  one_meaning = λ m. unsigned_one;
})

abbrev pub integer_at : TagValue → Form ℤ
integer_at tag = plain tag (record {
  reads = λ m. IsInteger;
  lawful = λ x. Unit {0};
  again = λ m x. x;
  writes = λ x m content. IsInteger content x;
  one_content = λ x m. one_integer x;
  is_read = λ x m content l v. v;
  one_meaning = λ m. record { one = one_number };
})

abbrev pub natural_at : TagValue → Form ℕ
natural_at tag = plain tag (record {
  reads = λ m. IsNatural;
  lawful = λ x. Unit {0};
  again = λ m x. x;
  writes = λ x m content. IsNatural content x;
  one_content = λ x m. one_integer (pos x);
  is_read = λ x m content l v. v;
  one_meaning = λ m. record {
    one = λ content x y p q. ap unsigned_abs (one_number content (pos x) (pos y) p q);
  };
})

abbrev pub oid_at : TagValue → Form (List ℕ)
oid_at tag = plain tag (record {
  reads = λ m. IsOid;
  lawful = IsIdentifier;
  again = λ m x. x;
  writes = λ x m content. AnyOctets content x;
  one_content = λ x m. one_string x;
  is_read = λ x m content l v. record { same = v.same; is = subst IsIdentifier (sym v.same) l };
  one_meaning = λ m. record { one = λ content x y p q. sym p.same ∙ q.same };
})

-- The one identifier with these octets.
abbrev pub that_oid_at : List ℕ → TagValue → Form (Unit {0})
that_oid_at octets tag = plain tag (record {
  reads = λ m. AreOctets octets;
  lawful = λ x. Unit {0};
  again = λ m x. x;
  writes = λ x m content. AnyOctets content octets;
  one_content = λ x m. one_string octets;
  is_read = λ x m content l v. record { same = v.same };
  one_meaning = λ m. unit_one;
})

abbrev pub bits_at : TagValue → Form BitsValue
bits_at tag = plain tag (record {
  reads = IsBitString;
  lawful = λ x. Unit {0};
  again = padded_in;
  writes = λ x m. WritesBits m x;
  one_content = λ x m. one_bits m x;
  is_read = λ x m content l v. v;
  one_meaning = λ m. bit_string_one;
})

pub string_tagged : (m : Mode) (tag : TagValue) (t : Tree) (x : List ℕ) → IsString m tag t x
    → tag_of t ≡ tag
string_tagged Ber tag (primitive u v) x p = p.0
string_tagged Ber tag (constructed u ts) x p = p.0
string_tagged Cer tag (primitive u v) x p = p.0
string_tagged Cer tag (constructed u ts) x p = p.0
string_tagged Der tag t x p = ap tag_of p

-- Octets: in CER more than 1000 of them are written in segments (X.690 9.2).
abbrev pub octets_at : TagValue → Form (List ℕ)
octets_at tag = record {
  reads = λ m. IsString m tag;
  lawful = λ x. Unit {0};
  again = λ m x. x;
  trees = λ x m. StringTrees m tag x;
  writes = λ x m. WritesString m tag x;
  has = λ t. t ≡ tag;
  sound = Unit {0};
  clear = λ m. Unit {0};
  spelled = λ x m. string_spelled m tag x;
  one_text = λ x m. string_one m tag x;
  tagged = λ m. string_tagged m tag;
  is_read = λ s x m ts l p. let w = written_string m tag x ts p in record { tree = w.tree; alone = w.alone; is = w.is };
  one_meaning = λ s m c. record { one = λ t x y p q. one_octets m tag t x y p q };
}

abbrev pub boolean : Form Bool
boolean = boolean_at boolean_tag

abbrev pub integer : Form ℤ
integer = integer_at integer_tag

abbrev pub natural : Form ℕ
natural = natural_at integer_tag

abbrev pub unsigned : ℕ → Form ℕ
unsigned bound = unsigned_at bound integer_tag

abbrev pub bits : Form BitsValue
bits = bits_at (universal 3)

abbrev pub octets : Form (List ℕ)
octets = octets_at octet_string_tag

abbrev pub null : Form (Unit {0})
null = null_at null_tag

abbrev pub oid : Form (List ℕ)
oid = oid_at oid_tag

abbrev pub that_oid : List ℕ → Form (Unit {0})
that_oid octets = that_oid_at octets oid_tag
