-- Entries as forms: what is written of serial numbers, moments and entries, and that it is read again (RFC 5280 5.1.2.6).
use Rattle.std.proofs.Common.{◌≡◌, ℕ, ◌⊎◌, List, inl, inr, refl, sym, ap, subst}
use Rattle.std.specs.Prelude.{pos}
use Rattle.certs_x509.specs.bcder_tree.declared.mode.Mode.{Mode}
use Rattle.certs_x509.specs.bcder_tree.Tags.{TagValue, generalized_time_tag, integer_tag, sequence_tag, utc_time_tag}
use Rattle.certs_x509.specs.bcder_tree.Tree.{Tree, Trees, primitive}
use Rattle.certs_x509.specs.bcder_primitive.Values.{AnyOctets}
use Rattle.certs_x509.specs.bcder_number.Contents.{one_integer}
use Rattle.certs_x509.specs.bcder_content.Contents.{tag_of}
use Rattle.certs_x509.specs.bcder_primitive.Encoded.{IsPlain, SpellsSome, WritesPlain}
use Rattle.certs_x509.specs.bcder_primitive.Simple.{one_string}
use Rattle.certs_x509.specs.bcder_values.Forms.{Form, Forms, both, last, mapped, wrapped}
use Rattle.certs_x509.specs.bcder_values.ListForms.{items}
use Rattle.certs_x509.specs.bcder_values.Plains.{plain_spelled, plain_one}
use Rattle.certs_basics.proofs.Values.{serial_one}
use Rattle.certs_x509.specs.certs_name.Serials.{IsSerialContent}
use Rattle.certs_x509.specs.certs_basics.Basics.{IsSerial}
use Rattle.certs_x509.specs.certs_basics.Forms.{IsTime, WritesTime}
use Rattle.certs_basics.proofs.Meanings.{one_written, time_one, written_time}
use Rattle.certs_extension.specs.CrlText.{RevokedValue, as_revoked}
use Rattle.certs_x509.specs.Entries.{entry_fields}

-- CertificateSerialNumber ::= INTEGER, from 0 up, below 2^160 (RFC 5280 4.1.2.2)
abbrev pub serial : Form ℕ
serial = record {
  reads = λ m. IsSerial;
  lawful = λ n. Unit {0};
  again = λ m n. n;
  trees = λ n m. IsPlain integer_tag (λ content. IsSerialContent content n);
  writes = λ n m. WritesPlain m integer_tag (λ content. IsSerialContent content n);
  has = λ t. t ≡ integer_tag;
  sound = Unit {0};
  clear = λ m. Unit {0};
  spelled = λ n m. plain_spelled m;
  one_text = λ n m. plain_one m (λ a b p q. one_integer (pos n) a b p.is q.is);
  tagged = λ m t n p. ap tag_of p.is.whole;
  is_read = λ s n m ts l p. record {
    tree = primitive integer_tag p.content;
    alone = p.whole;
    is = record {
      is = record { content = p.content; whole = refl; is = p.is.is };
      meets = p.is.small;
    };
  };
  one_meaning = λ s m c. serial_one;
}

-- A moment in the form that its year wants: UTCTime or GeneralizedTime (RFC 5280 5.1.2.4).
pub record AreMoment (moment : ℕ) (ts : Trees) : Type 0 where
  pub tag : TagValue
  pub content : List ℕ
  pub is : WritesTime moment (primitive tag content)
  pub plain : IsPlain tag (λ octets. AnyOctets octets content) ts

pub record WritesMoment (moment : ℕ) (m : Mode) (text : List ℕ) : Type 0 where
  pub tag : TagValue
  pub content : List ℕ
  pub is : WritesTime moment (primitive tag content)
  pub plain : WritesPlain m tag (λ octets. AnyOctets octets content) text

pub moment_spelled : (moment : ℕ) (m : Mode) (text : List ℕ) → WritesMoment moment m text
    → SpellsSome m (AreMoment moment) text
moment_spelled moment m text w =
    let s = plain_spelled m text w.plain in
    record {
      trees = s.trees;
      is = record {
        tag = w.tag;
        content = w.content;
        is = w.is;
        plain = s.is;
      };
      spelled = s.spelled;
    }

-- A primitive value has one tag and one content.
pub same_parts : {tag other : TagValue} {content octets : List ℕ}
    → primitive tag content ≡ primitive other octets → (tag ≡ other) × (content ≡ octets)
same_parts e = (ap tag_of e, cc)

pub moment_one : (moment : ℕ) (m : Mode) (a b : List ℕ) → WritesMoment moment m a
    → WritesMoment moment m b → a ≡ b
moment_one moment m a b v w =
    let same = same_parts (one_written moment (primitive v.tag v.content) (primitive w.tag w.content) v.is w.is) in
    let tagged = subst (λ (t : TagValue). WritesPlain m t (λ octets. AnyOctets octets v.content) a) same.0 v.plain in
    plain_one m (one_string w.content) a b (subst (λ (o : List ℕ). WritesPlain m w.tag (λ octets. AnyOctets octets o) a) same.1 tagged) w.plain

pub time_tagged : (t : Tree) (moment : ℕ) → IsTime t moment → (tag_of t ≡ utc_time_tag)
    ⊎ (tag_of t ≡ generalized_time_tag)
time_tagged t moment p = elim p.cases [
  | inl q ↦ inl (ap tag_of q.whole)
  | inr q ↦ inr (ap tag_of q.whole)
]

abbrev pub moment : Form ℕ
moment = record {
  reads = λ m. IsTime;
  lawful = λ n. Unit {0};
  again = λ m n. n;
  trees = λ n m. AreMoment n;
  writes = λ n m. WritesMoment n m;
  has = λ t. (t ≡ utc_time_tag) ⊎ (t ≡ generalized_time_tag);
  sound = Unit {0};
  clear = λ m. Unit {0};
  spelled = λ n m. moment_spelled n m;
  one_text = λ n m. moment_one n m;
  tagged = λ m t n p. time_tagged t n p;
  is_read = λ s n m ts l p. record {
    tree = primitive p.tag p.plain.content;
    alone = p.plain.whole;
    is = subst (λ (o : List ℕ). IsTime (primitive p.tag o) n) (sym p.plain.is.same)
        (written_time n (primitive p.tag p.content) p.is);
  };
  one_meaning = λ s m c. time_one;
}

-- SEQUENCE { userCertificate CertificateSerialNumber, revocationDate Time } (RFC 5280 5.1.2.6)
abbrev pub entry : Form RevokedValue
entry = mapped as_revoked entry_fields (wrapped sequence_tag (both serial (last moment)))

-- Entries, one after the other.
abbrev pub entry_list : Forms (List RevokedValue)
entry_list = items entry
