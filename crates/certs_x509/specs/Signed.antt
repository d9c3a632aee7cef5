-- Signed data: octets that are signed as they stand, an algorithm, and a signature (RFC 5280 4.1.1, 5.1.1).
use Rattle.std.proofs.Common.{ℕ, Bool, List, refl}
use Rattle.certs_x509.specs.bcder_tree.declared.mode.Mode.{Mode}
use Rattle.certs_x509.specs.bcder_tree.Tags.{TagValue, sequence_tag}
use Rattle.certs_x509.specs.bcder_content.Grammar.{Any, OctetsOf}
use Rattle.certs_x509.specs.bcder_content.Kept.{CapturedValue}
use Rattle.certs_x509.specs.bcder_content.Texts.{Joins, NoOctets, SpellsOf, WithOctets, Wraps}
use Rattle.certs_x509.specs.bcder_octets.Bits.{BitsValue}
use Rattle.certs_x509.specs.bcder_octets.BitContents.{IsBitString, bit_string_tag}
use Rattle.certs_x509.specs.bcder_values.Forms.{Form, Forms, both, last, wrapped}
use Rattle.certs_x509.specs.bcder_values.KeptForms.{kept}
use Rattle.certs_x509.specs.bcder.Kinds.{bits, bits_at}
use Rattle.certs_x509.specs.certs_basics.Basics.{IsAlgorithm}
use Rattle.certs_x509.specs.certs_basics.Identifiers.{sha256_with_rsa}
use Rattle.certs_x509.specs.certs_key.Algorithms.{SignatureValue, algorithm_of, x509_algorithm}

-- What is signed, with the mode in which it stood, and its signature, whose algorithm is whether NULL is there.
pub record SignedDataValue : Type 0 where
  pub message : CapturedValue
  pub signature : SignatureValue Bool

-- A value of which nothing is asked; its octets alone are kept.
abbrev pub any : Form (Unit {0})
any = record {
  reads = λ m. Any;
  lawful = λ x. Unit {0};
  again = λ m x. x;
  trees = λ x m ts. ⊥;
  writes = λ x m text. ⊥;
  has = λ t. Unit {0};
  sound = Unit {0};
  clear = λ m. Unit {0};
  spelled = λ x m text w. absurd w;
  one_text = λ x m a b v w. absurd v;
  tagged = λ m t x p. tt;
  is_read = λ s x m ts l p. absurd p;
  one_meaning = λ s m c. record { one = λ t x y p q. refl };
}

-- SEQUENCE { what is signed, signatureAlgorithm AlgorithmIdentifier, signatureValue BIT STRING } (RFC 5280 4.1.1)
abbrev pub Fields : Type 0
Fields = (CapturedValue × Unit {0}) × (Bool × (BitsValue × Unit {0}))

abbrev pub kept_message : CapturedValue → CapturedValue × Unit {0}
kept_message c = (c, tt)

abbrev pub signed_fields : SignedDataValue → Fields
signed_fields s = (kept_message s.message, (s.signature.algorithm, (s.signature.bits, tt)))

abbrev pub signed_content : Forms Fields
signed_content = both (kept any) (both x509_algorithm (last bits))

abbrev pub signed : Form Fields
signed = wrapped sequence_tag signed_content

-- The signed value by its octets, from the outermost down to the message, which is the very octets that stand there.
abbrev pub OctetFields : Type 0
OctetFields = (List ℕ × Unit {0}) × (Bool × (BitsValue × Unit {0}))

abbrev pub octet_fields : SignedDataValue → OctetFields
octet_fields s = ((s.message.octets, tt), (s.signature.algorithm, (s.signature.bits, tt)))

abbrev pub AreSignedOctets : Mode → List ℕ → OctetFields → Type 0
AreSignedOctets m =
    Joins (WithOctets (SpellsOf m Any))
    (Joins (SpellsOf m IsAlgorithm)
    (Joins (SpellsOf m (OctetsOf bit_string_tag (IsBitString m)))
    NoOctets))

abbrev pub SpellsSignedData : Mode → List ℕ → OctetFields → Type 0
SpellsSignedData m = Wraps m sequence_tag (AreSignedOctets m)

-- The tags of encoders, and what they lend.
abbrev pub Lent : Type 0
Lent = (TagValue × (List ℕ × TagValue)) × Fields

abbrev pub lent : Lent → Form Fields
lent l = wrapped l.0.0 (both (kept any) (both (algorithm_of l.0.1.0) (last (bits_at l.0.1.1))))

abbrev pub lends : TagValue → CapturedValue → List ℕ × Bool → TagValue × BitsValue → Lent
lends tag message algorithm bits =
    ((tag, (algorithm.0, bits.0)), (kept_message message, (algorithm.1, (bits.1, tt))))

abbrev pub signed_lends : SignedDataValue → Lent
signed_lends s = lends sequence_tag s.message (sha256_with_rsa, s.signature.algorithm)
    (bit_string_tag, s.signature.bits)
