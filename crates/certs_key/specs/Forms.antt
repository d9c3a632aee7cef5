-- The forms of a key and of its algorithm: what is read, what is written, and that the one is the other.
use Rattle.std.proofs.Common.{◌≡◌, ℕ, List, [], ◌∷◌, Some, refl, ap, ◌∙◌, arith}
use Rattle.certs_key.specs.bcder_tree.declared.mode.Mode.{Mode}
use Rattle.certs_key.specs.bcder_tree.Tags.{TagValue, universal, null_tag, oid_tag, sequence_tag}
use Rattle.certs_key.specs.bcder_tree.Tree.{Trees, primitive, constructed, none, more}
use Rattle.certs_key.specs.bcder_primitive.Values.{AnyOctets}
use Rattle.certs_key.specs.bcder_content.Contents.{tag_of}
use Rattle.certs_name.proofs.of_bcder_content.Unique.{any_octets_one}
use Rattle.certs_key.specs.bcder.Identifiers.{IsIdentifier}
use Rattle.certs_key.specs.bcder_octets.Bits.{BitsValue}
use Rattle.certs_key.specs.bcder_primitive.Encoded.{joined}
use Rattle.certs_key.specs.bcder_primitive.Simple.{one_string}
use Rattle.certs_key.specs.bcder_values.Forms.{Form, Forms, plain, both, last, wrapped}
use Rattle.certs_key.specs.bcder.Kinds.{bits, bits_at}
use Rattle.certs_key.specs.certs_basics.declared.PublicKeyFormat.{PublicKeyFormat}
use Rattle.certs_key.specs.certs_basics.declared.PublicKeyFormat.TheVariants.{Rsa, Ecdsa}
use Rattle.certs_key.specs.certs_basics.Identifiers.{rsa_encryption, ec_public_key, secp256r1}
use Rattle.certs_key.specs.certs_basics.Keys.{KeyValue, kind_of, of_rsa, of_ecdsa, IsFormat, HasEncoding, IsKey, format_tree}
use Rattle.certs_name.proofs.of_certs_basics.Values.{format_one, key_one}
use Rattle.certs_key.specs.Cleared.{key_again, again_has}

-- A primitive value of that tag with these octets, as they are.
abbrev pub raw : TagValue → Form (List ℕ)
raw tag = plain tag (record {
  reads = λ m. AnyOctets;
  lawful = λ x. Unit {0};
  again = λ m x. x;
  writes = λ x m content. AnyOctets content x;
  one_content = λ x m. one_string x;
  is_read = λ x m content l v. v;
  one_meaning = λ m. any_octets_one;
})

-- An identifier, and what stands after it: NULL with rsaEncryption, the curve with ecPublicKey.
abbrev pub Pair : Type 0
Pair = List ℕ × (List ℕ × Unit {0})

abbrev pub parameters_tag : PublicKeyFormat → TagValue
parameters_tag Rsa = null_tag
parameters_tag Ecdsa = oid_tag

abbrev pub parameters_of : PublicKeyFormat → List ℕ
parameters_of Rsa = []
parameters_of Ecdsa = secp256r1

abbrev pub pair_of : PublicKeyFormat → Pair
pair_of x = (kind_of x, (parameters_of x, tt))

abbrev pub pair : TagValue → TagValue → TagValue → Form Pair
pair outer first second = wrapped outer (both (raw first) (last (raw second)))

-- What is written of it is one tree.
pair_tree : (m : Mode) (outer first second : TagValue) (a b : List ℕ) (ts : Trees)
    → (pair outer first second).trees (a, (b, tt)) m ts
    → ts ≡ more (constructed outer (more (primitive first a) (more (primitive second b) none))) none
pair_tree m outer first second a b ts p =
    let one : p.is.first ≡ more (primitive first a) none =
    p.is.is_first.whole ∙ ap (λ v. more (primitive first v) none) p.is.is_first.is.same in
    let two : p.is.second ≡ more (primitive second b) none =
    p.is.is_second.whole ∙ ap (λ v. more (primitive second v) none) p.is.is_second.is.same in
    let all : p.values ≡ more (primitive first a) (more (primitive second b) none) =
    p.is.whole ∙ ap (λ us. joined us p.is.second) one ∙ ap
    (λ us. more (primitive first a) us) two in
    p.whole ∙ ap (λ us. more (constructed outer us) none) all

pub format_shown : (x : PublicKeyFormat) (m : Mode) (ts : Trees)
    → (pair sequence_tag oid_tag (parameters_tag x)).trees (pair_of x) m ts
    → ts ≡ more (format_tree x) none
format_shown Rsa m ts p = pair_tree m sequence_tag oid_tag null_tag rsa_encryption [] ts p
format_shown Ecdsa m ts p = pair_tree m sequence_tag oid_tag oid_tag ec_public_key secp256r1 ts p

rsa_identifies : IsIdentifier rsa_encryption
rsa_identifies = record {
  front = 42 ∷ 134 ∷ 72 ∷ 134 ∷ 247 ∷ 13 ∷ 1 ∷ 1 ∷ [];
  last = 1;
  whole = refl;
  ends = omega arith;
}

ec_identifies : IsIdentifier ec_public_key
ec_identifies =
    record { front = 42 ∷ 134 ∷ 72 ∷ 206 ∷ 61 ∷ 2 ∷ []; last = 1; whole = refl; ends = omega arith }

pub format_is : (x : PublicKeyFormat) → IsFormat (format_tree x) x
format_is Rsa = record {
  values = more (primitive oid_tag rsa_encryption) (more (primitive null_tag []) none);
  whole = refl;
  is = record {
    are = record {
      first = primitive oid_tag rsa_encryption;
      others = more (primitive null_tag []) none;
      whole = refl;
      is = record {
        content = rsa_encryption;
        whole = refl;
        is = record { same = refl; is = rsa_identifies };
      };
      rest = (
        refl,
        of_rsa {x = (Some tt, tt)} (record {
          cases = record {
            first = primitive null_tag [];
            others = none;
            whole = refl;
            is = record { content = []; whole = refl; is = record { empty = refl } };
            rest = record { ended = refl };
          };
        }),
      );
    };
  };
}
format_is Ecdsa = record {
  values = more (primitive oid_tag ec_public_key) (more (primitive oid_tag secp256r1) none);
  whole = refl;
  is = record {
    are = record {
      first = primitive oid_tag ec_public_key;
      others = more (primitive oid_tag secp256r1) none;
      whole = refl;
      is = record {
        content = ec_public_key;
        whole = refl;
        is = record { same = refl; is = ec_identifies };
      };
      rest = (
        refl,
        of_ecdsa {x = (tt, tt)} (record {
          first = primitive oid_tag secp256r1;
          others = none;
          whole = refl;
          is = record { content = secp256r1; whole = refl; is = record { same = refl } };
          rest = record { ended = refl };
        }),
      );
    };
  };
}

-- AlgorithmIdentifier ::= SEQUENCE { algorithm OBJECT IDENTIFIER, parameters ANY DEFINED BY algorithm }, written with
-- NULL after rsaEncryption (RFC 7935 3.1)
abbrev pub format : Form PublicKeyFormat
format = record {
  reads = λ m. IsFormat;
  lawful = λ x. Unit {0};
  again = λ m x. x;
  trees = λ x. (pair sequence_tag oid_tag (parameters_tag x)).trees (pair_of x);
  writes = λ x. (pair sequence_tag oid_tag (parameters_tag x)).writes (pair_of x);
  has = λ t. t ≡ sequence_tag;
  sound = Unit {0};
  clear = λ m. Unit {0};
  spelled = λ x. (pair sequence_tag oid_tag (parameters_tag x)).spelled (pair_of x);
  one_text = λ x. (pair sequence_tag oid_tag (parameters_tag x)).one_text (pair_of x);
  tagged = λ m t x p. ap tag_of p.whole;
  is_read = λ s x m ts l p. record {
    tree = format_tree x;
    alone = format_shown x m ts p;
    is = format_is x;
  };
  one_meaning = λ s m c. format_one;
}

-- SubjectPublicKeyInfo ::= SEQUENCE { algorithm AlgorithmIdentifier, subjectPublicKey BIT STRING } (RFC 5280 4.1)
abbrev pub Fields : Type 0
Fields = PublicKeyFormat × (BitsValue × Unit {0})

abbrev pub key_fields : KeyValue → Fields
key_fields k = (k.format, (k.bits, tt))

abbrev pub key_body : Forms Fields
key_body = both format (last bits)

abbrev pub key : Form KeyValue
key = record {
  reads = IsKey;
  lawful = HasEncoding;
  again = key_again;
  trees = λ k. (wrapped sequence_tag key_body).trees (key_fields k);
  writes = λ k. (wrapped sequence_tag key_body).writes (key_fields k);
  has = λ t. t ≡ sequence_tag;
  sound = Unit {0};
  clear = λ m. Unit {0};
  spelled = λ k. (wrapped sequence_tag key_body).spelled (key_fields k);
  one_text = λ k. (wrapped sequence_tag key_body).one_text (key_fields k);
  tagged = λ m t k p. ap tag_of p.whole;
  is_read = λ s k m ts l p.
      let a = (wrapped sequence_tag key_body).is_read (tt, tt) (key_fields k) m ts (tt, tt) p in
      record {
        tree = a.tree;
        alone = a.alone;
        is = record {
          values = a.is.values;
          whole = a.is.whole;
          is = record { are = a.is.is; has = again_has m k l };
        };
      };
  one_meaning = λ s m c. key_one;
}

-- The tags of encoders, and what they lend.
abbrev pub Lent : Type 0
Lent =
    (TagValue × (TagValue × (TagValue × (TagValue × TagValue)))) × (Pair × (BitsValue × Unit {0}))

abbrev pub lent : Lent → Form (Pair × (BitsValue × Unit {0}))
lent l = wrapped l.0.0 (both (pair l.0.1.0 l.0.1.1.0 l.0.1.1.1.0) (last (bits_at l.0.1.1.1.1)))

abbrev pub lends : TagValue → TagValue → TagValue × List ℕ → TagValue × List ℕ → TagValue
    × BitsValue → Lent
lends t u a b d = ((t, (u, (a.0, (b.0, d.0)))), ((a.1, (b.1, tt)), (d.1, tt)))

abbrev pub key_lends : KeyValue → Lent
key_lends k = lends sequence_tag sequence_tag (oid_tag, kind_of k.format)
    (parameters_tag k.format, parameters_of k.format) (universal 3, k.bits)
