-- Fields of certificates and revocation lists as they are written (RFC 5280 4.1, 5.1).
use Rattle.std.proofs.Common.{◌≡◌, ℕ, ◌^◌, Bool, List, subst}
use Rattle.certs.specs.bcder_tree.declared.mode.Mode.{Mode}
use Rattle.certs.specs.bcder_tree.Tags.{sequence_tag}
use Rattle.certs.specs.bcder_tree.Tree.{Tree, Trees, constructed, primitive}
use Rattle.certs.specs.bcder_content.Kept.{CapturedValue}
use Rattle.certs.specs.bcder_primitive.Values.{AnyOctets}
use Rattle.certs.specs.bcder.Kinds.{natural, unsigned}
use Rattle.certs.specs.bcder_values.Captures.{CapturedText, CapturedTrees, captured_one, captured_spelled}
use Rattle.certs.specs.bcder_values.Plains.{plain_one, plain_spelled}
use Rattle.certs.specs.bcder_primitive.Encoded.{IsPlain, SpellsSome, WritesPlain}
use Rattle.certs.specs.bcder_primitive.Simple.{one_string}
use Rattle.certs_key.specs.Forms as keys
use Rattle.certs_key.specs.Algorithms.{x509_algorithm}
use Rattle.certs.specs.certs_basics.Keys.{KeyValue}
use Rattle.certs.specs.certs_basics.Forms.{WritesTime}
use Rattle.certs.specs.certs_basics.Periods.{Period}
use Rattle.certs_basics.proofs.Meanings.{one_written}
use Rattle.certs.specs.Outputs.{Output, beside, inside, of}

-- A primitive value by its octets, as it is written.
abbrev pub PlainTrees : Tree → Trees → Type 0
PlainTrees (primitive tag content) = IsPlain tag (λ octets. AnyOctets octets content)
PlainTrees (constructed tag values) = λ ts. ⊥

abbrev pub PlainText : Mode → Tree → List ℕ → Type 0
PlainText m (primitive tag content) = WritesPlain m tag (λ octets. AnyOctets octets content)
PlainText m (constructed tag values) = λ text. ⊥

pub plain_tree_spelled : (m : Mode) (t : Tree) (text : List ℕ) → PlainText m t text
    → SpellsSome m (PlainTrees t) text
plain_tree_spelled m (primitive tag content) text w = plain_spelled m text w
plain_tree_spelled m (constructed tag values) text w = absurd w

pub plain_tree_one : (m : Mode) (t : Tree) (a b : List ℕ) → PlainText m t a → PlainText m t b
    → a ≡ b
plain_tree_one m (primitive tag content) a b v w = plain_one m (one_string content) a b v w
plain_tree_one m (constructed tag values) a b v w = absurd v

-- Time: UTCTime from 1950 through 2049, and GeneralizedTime before and after (RFC 5280 4.1.2.5).
pub record IsTimeOf (seconds : ℕ) (ts : Trees) : Type 0 where
  pub tree : Tree
  pub tells : WritesTime seconds tree
  pub is : PlainTrees tree ts

pub record WritesTimeOf (m : Mode) (seconds : ℕ) (text : List ℕ) : Type 0 where
  pub tree : Tree
  pub tells : WritesTime seconds tree
  pub is : PlainText m tree text

pub time_spelled : (m : Mode) (seconds : ℕ) (text : List ℕ) → WritesTimeOf m seconds text
    → SpellsSome m (IsTimeOf seconds) text
time_spelled m seconds text w =
    let p = plain_tree_spelled m w.tree text w.is in
    record {
      trees = p.trees;
      is = record { tree = w.tree; tells = w.tells; is = p.is };
      spelled = p.spelled;
    }

pub time_one : (m : Mode) (seconds : ℕ) (a b : List ℕ) → WritesTimeOf m seconds a
    → WritesTimeOf m seconds b → a ≡ b
time_one m seconds a b v w =
    plain_tree_one m w.tree a b (subst (λ (t : Tree). PlainText m t a)
    (one_written seconds v.tree w.tree v.tells w.tells) v.is) w.is

abbrev pub time : ℕ → Output
time seconds = record {
  trees = λ m. IsTimeOf seconds;
  writes = λ m. WritesTimeOf m seconds;
  spelled = λ m. time_spelled m seconds;
  one_text = λ m. time_one m seconds;
}

-- Validity ::= SEQUENCE { notBefore Time, notAfter Time } (RFC 5280 4.1.2.5)
abbrev pub validity : Period → Output
validity p = inside sequence_tag (beside (time p.not_before) (time p.not_after))

-- CertificateSerialNumber ::= INTEGER (RFC 5280 4.1.2.2); a CRL's number too (5.2.3)
abbrev pub serial : ℕ → Output
serial = of natural

-- Version ::= INTEGER (RFC 5280 4.1.2.1, 5.1.2.1)
abbrev pub version : ℕ → Output
version = of (unsigned (2 ^ 8))

-- AlgorithmIdentifier of sha256WithRSAEncryption, with NULL or without (RFC 5280 4.1.1.2, RFC 7935 2)
abbrev pub algorithm : Bool → Output
algorithm = of x509_algorithm

-- A name, as the octets that are kept (RFC 5280 4.1.2.4)
abbrev pub name : CapturedValue → Output
name kept = record {
  trees = CapturedTrees kept;
  writes = CapturedText kept;
  spelled = captured_spelled kept;
  one_text = captured_one kept;
}

-- SubjectPublicKeyInfo (RFC 5280 4.1.2.7)
abbrev pub public_key : KeyValue → Output
public_key = of keys.key
