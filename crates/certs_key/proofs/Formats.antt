-- The algorithm of a key, step by step, and keys by their parts.
use Rattle.std.proofs.Common.{◌≡◌, ℕ, true, false, List, Option, Some, None, refl, sym, ◌∙◌, subst}
use Rattle.std.specs.Prelude.{MatchOption}
use Rattle.certs_key.specs.bcder_tree.declared.mode.Mode.{Mode}
use Rattle.certs_key.specs.bcder_tree.Tags.{oid_tag}
use Rattle.certs_key.specs.bcder_tree.Tree.{Tree, Trees}
use Rattle.certs_key.specs.bcder_content.Contents.{ValuesLeft}
use Rattle.certs_key.specs.bcder_content.Exact.{Gives, Lacks}
use Rattle.certs_key.specs.bcder_content.Grammar.{OctetsOf, One, Then, End}
use Rattle.certs_key.specs.bcder_content.Kept.{CapturedValue}
use Rattle.certs_key.specs.bcder_content.Words.{ThenBy}
use Rattle.certs_key.proofs.of_bcder_content.InMode.{Fields, begin}
use Rattle.certs_key.proofs.of_bcder_content.Choosing.{next_by, told_by}
use Rattle.certs_key.proofs.of_bcder_content.Took.{one_took}
use Rattle.certs_key.proofs.of_bcder_content.Unique.{inside_one, octets_one, then_one, end_one}
use Rattle.certs_key.specs.bcder_octets.Bits.{BitsValue}
use Rattle.certs_key.proofs.of_bcder_octets.BitReadings.{bit_string_one}
use Rattle.certs_key.specs.bcder_values.KeptForms.{KeptIn}
use Rattle.certs_key.specs.bcder.Identifiers.{AreOctets, IsOid}
use Rattle.certs_key.proofs.of_bcder.Read.{oid_one}
use Rattle.certs_key.specs.certs_basics.declared.PublicKeyFormat.{PublicKeyFormat}
use Rattle.certs_key.specs.certs_basics.declared.PublicKeyFormat.TheVariants.{Rsa, Ecdsa}
use Rattle.certs_key.specs.certs_basics.Basics.{OptNull}
use Rattle.certs_key.specs.certs_basics.Identifiers.{rsa_encryption, ec_public_key, secp256r1}
use Rattle.certs_key.specs.certs_basics.Keys.{KeyValue, kind_of, AreParameters, of_rsa, of_ecdsa, IsFormatBody, IsKey, Encodes, HasEncoding}
use Rattle.certs_key.proofs.of_certs_basics.Values.{format_one}
use Rattle.certs_key.specs.Reading.{IsParts, Parts, kept_parts, parts_fields}

-- The algorithm.

abbrev pub Follows : List ℕ → Trees → PublicKeyFormat → Type 0
Follows kind us x = (kind ≡ kind_of x) × AreParameters x us

abbrev pub Body : Trees → List ℕ × PublicKeyFormat → Type 0
Body = ThenBy (OctetsOf oid_tag IsOid) Follows

abbrev pub Curve : Trees → Unit {0} × Unit {0} → Type 0
Curve = Then (OctetsOf oid_tag (AreOctets secp256r1)) End

abbrev pub Null : Type 0
Null = Option (Unit {0}) × Unit {0}

to_body : (m : Mode) (ts : Trees) (c : List ℕ × PublicKeyFormat) → Body ts c → IsFormatBody ts c.1
to_body m ts c p = record { are = subst (λ (k : List ℕ). Body ts (k, c.1)) p.rest.0 p }

from_body : (m : Mode) (ts : Trees) (x : PublicKeyFormat) → IsFormatBody ts x → (c : List ℕ × PublicKeyFormat) × Body ts c
from_body m ts x p = ((kind_of x, x), p.are)

pub started : {v : ValuesLeft} → Fields (λ m. IsFormatBody) (λ m. Body) (λ c. c.1) v v false
started = told_by {R = λ m. IsFormatBody} {T = λ m. Body} (λ c. c.1) begin to_body from_body

pub named : {v w : ValuesLeft} {kind : List ℕ} → Gives (OctetsOf oid_tag IsOid) v kind w → Fields (λ m. IsFormatBody) (λ m. Follows kind) (λ x. x) v w true
named g = next_by (λ m. octets_one oid_one) started g

rsa_parameters : (x : PublicKeyFormat) (ts : Trees) → x ≡ Rsa → AreParameters x ts → (y : Null) × OptNull ts y
rsa_parameters Rsa ts e (of_rsa p) = (_, p)
rsa_parameters Ecdsa ts e (of_ecdsa p) = absurd cc

curve_parameters : (x : PublicKeyFormat) (ts : Trees) → x ≡ Ecdsa → AreParameters x ts → (y : Unit {0} × Unit {0}) × Curve ts y
curve_parameters Ecdsa ts e (of_ecdsa p) = (_, p)
curve_parameters Rsa ts e (of_rsa p) = absurd cc

rsa_named : (x : PublicKeyFormat) → rsa_encryption ≡ kind_of x → x ≡ Rsa
rsa_named Rsa e = refl
rsa_named Ecdsa e = absurd cc

curve_named : (x : PublicKeyFormat) → ec_public_key ≡ kind_of x → x ≡ Ecdsa
curve_named Ecdsa e = refl
curve_named Rsa e = absurd cc

-- After rsaEncryption stands NULL or nothing,
pub rsa_next : {v w : ValuesLeft} {kind : List ℕ} → kind ≡ rsa_encryption → Gives (OctetsOf oid_tag IsOid) v kind w
    → Fields (λ m. IsFormatBody) (λ m. OptNull) (λ y. Rsa) v w true
rsa_next {kind = kind} e g = told_by {R = λ m. Follows kind} {T = λ m. OptNull} (λ y. Rsa) (named g) (λ m ts y p. (e, of_rsa p)) (λ m ts x p. rsa_parameters x ts (rsa_named x (sym e ∙ p.0)) p.1)

-- after ecPublicKey the curve,
pub curve_next : {v w : ValuesLeft} {kind : List ℕ} → kind ≡ ec_public_key → Gives (OctetsOf oid_tag IsOid) v kind w
    → Fields (λ m. IsFormatBody) (λ m. Curve) (λ y. Ecdsa) v w true
curve_next {kind = kind} e g = told_by {R = λ m. Follows kind} {T = λ m. Curve} (λ y. Ecdsa) (named g) (λ m ts y p. (e, of_ecdsa p)) (λ m ts x p. curve_parameters x ts (curve_named x (sym e ∙ p.0)) p.1)

-- and nothing can stand after another identifier.
pub none_follows : (kind : List ℕ) → (kind ≡ rsa_encryption → ⊥) → (kind ≡ ec_public_key → ⊥) → (m : Mode) (ts : Trees) (x : PublicKeyFormat) → Follows kind ts x → ⊥
none_follows kind a b m ts Rsa p = a p.0
none_follows kind a b m ts Ecdsa p = b p.0

-- Keys by their parts, whose octets are kept.

abbrev pub key_of : PublicKeyFormat × BitsValue → KeyValue
key_of x = record { format = x.0; bits = x.1 }

abbrev of_parts : Parts → KeyValue
of_parts f = record { format = f.0; bits = f.1.0 }

parts_one : (m : Mode) → One (IsParts m)
parts_one m = inside_one (then_one format_one (then_one (octets_one bit_string_one) end_one))

has_parts : {m : Mode} {t : Tree} {k : KeyValue} → IsKey m t k → IsParts m t (k.format, (k.bits, tt))
has_parts p = record { values = p.values; whole = p.whole; is = p.is.are }

-- A key that has encoded octets was read.
pub key_given : {v w : ValuesLeft} {c : CapturedValue} {x : PublicKeyFormat × BitsValue} (text : List ℕ) → Encodes (key_of x) text
    → Gives (KeptIn IsParts v.mode) v (kept_parts (c, x)) w → Gives (IsKey v.mode) v (key_of x) w
key_given text e g = record {
  tree = g.tree;
  is = record {
    values = g.is.kept.is.values;
    whole = g.is.kept.is.whole;
    is = record { are = g.is.kept.is.is; has = record { octets = text; encodes = e } };
  };
  took = g.took;
}

-- No key's parts are next, so no key is.
pub key_lacks : {v : ValuesLeft} → Lacks (KeptIn IsParts v.mode) v → Lacks (IsKey v.mode) v
key_lacks {v} l = record {
  none = λ t k p a.
      let kept : CapturedValue = record { mode = v.mode; octets = a.1.text } in
      l.none t (kept_parts (kept, (k.format, k.bits))) (record { mode = refl; kept = record { spelled = a.1.spelled; is = has_parts p } }) a;
}

-- The parts were read of what would be a key, if it had encoded octets.
pub key_unfit : {v w : ValuesLeft} {c : CapturedValue} {x : PublicKeyFormat × BitsValue} → (HasEncoding (key_of x) → ⊥)
    → Gives (KeptIn IsParts v.mode) v (kept_parts (c, x)) w → Lacks (IsKey v.mode) v
key_unfit {v = v} {x = x} never g = record {
  none = λ t k p a.
      let same = (one_took g.took a.1).0 in
      let parts = subst (λ (u : Tree). IsParts v.mode u (parts_fields x)) same g.is.kept.is in
      never (subst (λ (f : Parts). HasEncoding (of_parts f)) ((parts_one v.mode).one t (k.format, (k.bits, tt)) (parts_fields x) (has_parts p) parts) p.is.has);
}

-- The encoded octets that were found, or that there are none.
pub some_encodes : (k : KeyValue) {o : Option (List ℕ)} {text : List ℕ} → o ≡ Some text → MatchOption o (HasEncoding k → ⊥) (Encodes k) → Encodes k text
some_encodes k e h = subst (λ (p : Option (List ℕ)). MatchOption p (HasEncoding k → ⊥) (Encodes k)) e h

pub none_has : {k : KeyValue} {o : Option (List ℕ)} → o ≡ None → MatchOption o (HasEncoding k → ⊥) (Encodes k) → HasEncoding k → ⊥
none_has {k} e h = subst (λ (p : Option (List ℕ)). MatchOption p (HasEncoding k → ⊥) (Encodes k)) e h

-- A clone has the same encoded octets.
pub clone_encodes : (f : PublicKeyFormat) {b d : BitsValue} {s t : List ℕ} → b ≡ d → s ≡ t → Encodes (key_of (f, d)) t → Encodes (key_of (f, b)) s
clone_encodes f {b} {d} {s} {t} e g h = subst (Encodes (key_of (f, b))) (sym g) (subst (λ (a : BitsValue). Encodes (key_of (f, a)) t) (sym e) h)
