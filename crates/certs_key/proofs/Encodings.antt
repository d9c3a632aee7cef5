-- The encoded octets of a key: those that spell its tree in DER are the octets of the function `encoded`, and they are
-- what is written of it in DER.
use Rattle.std.proofs.Common.{◌≡◌, ◌≢◌, ℕ, ◌^◌, ◌<◌, ◌≤◌, Bool, true, false, List, [], ◌∷◌, ◌++◌, length, take, Some, refl, sym, ap, ◌∙◌, subst, arith, append-nil, length-append}
use Rattle.std.proofs.lemmas.Bool.{cond_below, cond_above}
use Rattle.certs_key.specs.bcder_tree.declared.mode.Mode.TheVariants.{Ber, Der}
use Rattle.certs_key.specs.bcder_tree.Tags.{TagValue, universal, null_tag, oid_tag, sequence_tag}
use Rattle.certs_key.specs.bcder_tree.Octets.{IsIdentifier, IsLength}
use Rattle.certs_key.specs.bcder_tree.Tree.{Tree, Trees, primitive, constructed, none, more, IsHeader, IsConstructed, definite, indefinite, Spells, SpellsAll}
use Rattle.certs_key.proofs.of_bcder_tree.Canonical.{spelled_identifier}
use Rattle.certs_key.specs.bcder_octets.Bits.{IsBits}
use Rattle.certs_key.specs.bcder_octets.BitContents.{cleared}
use Rattle.certs_key.proofs.of_bcder_octets.BitWritings.{written}
use Rattle.certs_key.specs.bcder_primitive.Values.{AnyOctets}
use Rattle.certs_key.specs.bcder_primitive.Encoded.{WritesPlain, joined}
use Rattle.certs_key.specs.bcder_primitive.Writing.{Wrote}
use Rattle.certs_key.specs.bcder_primitive.declared.written.error.EncodeError.{EncodeError}
use Rattle.certs_key.specs.bcder_primitive.declared.written.error.EncodeError.TheVariants as errors
use Rattle.certs_key.specs.bcder_values.Gathered.{ExtendRefused}
use Rattle.certs_key.specs.certs_basics.declared.PublicKeyFormat.{PublicKeyFormat}
use Rattle.certs_key.specs.certs_basics.declared.PublicKeyFormat.TheVariants.{Rsa, Ecdsa}
use Rattle.certs_key.specs.certs_basics.Identifiers.{rsa_encryption, ec_public_key, secp256r1}
use Rattle.certs_key.specs.certs_basics.Keys.{KeyValue, format_tree, key_tree, Encodes, HasEncoding, der_length, der, encoded_format, encoded}
use Rattle.certs_key.specs.Forms.{pair, format, format_shown, key, Lent, lent, key_lends}

-- Lengths.

not_ber : Der ≢ Ber
not_ber e = cc

cells : {a b : ℕ} {v w : List ℕ} → a ≡ b → v ≡ w → a ∷ v ≡ b ∷ w
cells e f = cc

length_is : (size : List ℕ) (n : ℕ) → IsLength Der size n → size ≡ der_length n
length_is (a ∷ []) n h = cells (omega arith) refl ∙ cond_below n 128 _ _ (omega arith)
length_is (a ∷ b ∷ []) n h = cond_above n 128 _ _ _ (omega arith) (cells (omega arith) (cells (omega arith) refl) ∙ cond_below n 256 _ _ (omega arith))
length_is (a ∷ b ∷ c ∷ []) n h =
    cond_above n 128 _ _ _ (omega arith) (cond_above n 256 _ _ _ (omega arith)
    (cells (omega arith) (cells (omega arith) (cells (omega arith) refl)) ∙ cond_below n 65536 _ _ (omega arith)))
length_is (a ∷ b ∷ c ∷ d ∷ []) n h =
    cond_above n 128 _ _ _ (omega arith) (cond_above n 256 _ _ _ (omega arith) (cond_above n 65536 _ _ _ (omega arith)
    (cells (omega arith) (cells (omega arith) (cells (omega arith) (cells (omega arith) refl))) ∙ cond_below n 16777216 _ _ (omega arith))))
length_is (a ∷ b ∷ c ∷ d ∷ e ∷ []) n h =
    cond_above n 128 _ _ _ (omega arith) (cond_above n 256 _ _ _ (omega arith) (cond_above n 65536 _ _ _ (omega arith) (cond_above n 16777216 _ _ _ (omega arith)
    (cells (omega arith) (cells (omega arith) (cells (omega arith) (cells (omega arith) (cells (omega arith) refl))))))))
length_is [] n h = absurd h
length_is (a ∷ b ∷ c ∷ d ∷ e ∷ f ∷ v) n h = absurd h

-- A length takes at most five octets, and states less than 2^32.
length_few : (size : List ℕ) (n : ℕ) → IsLength Der size n → (length size ≤ 5) × (n < 2 ^ 32)
length_few (a ∷ []) n h = (omega arith, omega arith)
length_few (a ∷ b ∷ []) n h = (omega arith, omega arith)
length_few (a ∷ b ∷ c ∷ []) n h = (omega arith, omega arith)
length_few (a ∷ b ∷ c ∷ d ∷ []) n h = (omega arith, omega arith)
length_few (a ∷ b ∷ c ∷ d ∷ e ∷ []) n h = (omega arith, omega arith)
length_few [] n h = absurd h
length_few (a ∷ b ∷ c ∷ d ∷ e ∷ f ∷ v) n h = absurd h

-- Values.

header_is : {form : Bool} {t : TagValue} {n : ℕ} (c : ℕ) (octets : List ℕ) → IsIdentifier (c ∷ []) form t → IsHeader Der octets form t n → octets ≡ c ∷ der_length n
header_is {form} {t} {n} c octets i h =
    h.whole ∙ ap (λ v. v ++ h.size) (spelled_identifier h.identifier (c ∷ []) form t h.identifier_is i) ∙ ap (λ v. c ∷ v) (length_is h.size n h.size_is)

primitive_is : (t : TagValue) (content : List ℕ) (c : ℕ) → IsIdentifier (c ∷ []) false t → (octets : List ℕ) → Spells Der (primitive t content) octets → octets ≡ der c content
primitive_is t content c i octets p = p.whole ∙ ap (λ v. v ++ content) (header_is c p.header i p.header_is)

constructed_is : (t : TagValue) (ts : Trees) (c : ℕ) (octets x : List ℕ) → IsIdentifier (c ∷ []) true t → ((content : List ℕ) → SpellsAll Der ts content → content ≡ x)
    → Spells Der (constructed t ts) octets → octets ≡ der c x
constructed_is t ts c octets x i inner p = elim p.1 [
  | definite d header h e ↦ e ∙ ap (λ v. v ++ p.0) (header_is c header i h) ∙ ap (λ v. der c v) (inner p.0 p.2)
  | indefinite d identifier g h e ↦ absurd d
]

two_are : (t u : Tree) (content x y : List ℕ) → ((a : List ℕ) → Spells Der t a → a ≡ x) → ((b : List ℕ) → Spells Der u b → b ≡ y)
    → SpellsAll Der (more t (more u none)) content → content ≡ x ++ y
two_are t u content x y one two p =
    let q = p.3 in
    p.4 ∙ ap (λ v. v ++ p.1) (one p.0 p.2) ∙ ap (λ v. x ++ v) (q.4 ∙ ap (λ v. v ++ q.1) (two q.0 q.2) ∙ ap (λ v. y ++ v) q.3 ∙ append-nil y)

-- Keys.

sequence_identifies : IsIdentifier (48 ∷ []) true sequence_tag
sequence_identifies = (refl, omega arith)

bits_identify : IsIdentifier (3 ∷ []) false (universal 3)
bits_identify = (refl, omega arith)

null_identifies : IsIdentifier (5 ∷ []) false null_tag
null_identifies = (refl, omega arith)

oid_identifies : IsIdentifier (6 ∷ []) false oid_tag
oid_identifies = (refl, omega arith)

pair_is : (first second : TagValue) (a b : List ℕ) (c d : ℕ) → IsIdentifier (c ∷ []) false first → IsIdentifier (d ∷ []) false second
    → (octets : List ℕ) → Spells Der (constructed sequence_tag (more (primitive first a) (more (primitive second b) none))) octets → octets ≡ der 48 (der c a ++ der d b)
pair_is first second a b c d i j octets p =
    constructed_is sequence_tag (more (primitive first a) (more (primitive second b) none)) 48 octets (der c a ++ der d b) sequence_identifies
    (λ content s. two_are (primitive first a) (primitive second b) content (der c a) (der d b) (primitive_is first a c i) (primitive_is second b d j) s) p

format_encoded : (x : PublicKeyFormat) (octets : List ℕ) → Spells Der (format_tree x) octets → octets ≡ encoded_format x
format_encoded Rsa octets p = pair_is oid_tag null_tag rsa_encryption [] 6 5 oid_identifies null_identifies octets p
format_encoded Ecdsa octets p = pair_is oid_tag oid_tag ec_public_key secp256r1 6 6 oid_identifies oid_identifies octets p

-- The octets of the function are the only ones.
pub encoded_alone : (k : KeyValue) (octets : List ℕ) → Encodes k octets → octets ≡ encoded k
encoded_alone k octets p =
    let last = k.bits.unused ∷ cleared k.bits.unused k.bits.octets in
    let tree = primitive (universal 3) last in
    constructed_is sequence_tag (more (format_tree k.format) (more tree none)) 48 octets (encoded_format k.format ++ der 3 last) sequence_identifies
    (λ content s. two_are (format_tree k.format) tree content (encoded_format k.format) (der 3 last) (format_encoded k.format) (primitive_is (universal 3) last 3 bits_identify) s) p

pub encoded_is : (k : KeyValue) → HasEncoding k → Encodes k (encoded k)
encoded_is k h = subst (Encodes k) (encoded_alone k h.octets h.encodes) h.encodes

-- What is written in DER.

key_shown : (k : KeyValue) (ts : Trees) → key.trees k Der ts → ts ≡ more (key_tree k) none
key_shown k ts p =
    let one = format_shown k.format Der p.is.first p.is.is_first in
    let q = p.is.is_second in
    let last = k.bits.unused ∷ cleared k.bits.unused k.bits.octets in
    let two : p.is.second ≡ more (primitive (universal 3) last) none = q.whole ∙ ap (λ v. more (primitive (universal 3) v) none) q.is.whole in
    let all : p.values ≡ more (format_tree k.format) (more (primitive (universal 3) last) none) =
    p.is.whole ∙ ap (λ us. joined us p.is.second) one ∙ ap (λ us. more (format_tree k.format) us) two in
    p.whole ∙ ap (λ us. more (constructed sequence_tag us) none) all

alone_spelled : (t : Tree) (text : List ℕ) → SpellsAll Der (more t none) text → Spells Der t text
alone_spelled t text s = subst (Spells Der t) (sym (s.4 ∙ ap (λ v. s.0 ++ v) s.3 ∙ append-nil s.0)) s.2

-- It is the encoded octets.
pub written_encodes : (k : KeyValue) (text : List ℕ) → key.writes k Der text → Encodes k text
written_encodes k text w =
    let s = key.spelled k Der text w in
    alone_spelled (key_tree k) text (subst (λ (ts : Trees). SpellsAll Der ts text) (key_shown k s.trees s.is) s.spelled)

-- A value with a header of definite length.
record Headed (form : Bool) (t : TagValue) (content octets : List ℕ) : Type 0 where
  pub header : List ℕ
  pub header_is : IsHeader Der header form t (length content)
  pub whole : octets ≡ header ++ content

headed : {t : TagValue} {content octets : List ℕ} → IsConstructed Der octets t content → Headed true t content octets
headed p = elim p [
  | definite d header h e ↦ record { header = header; header_is = h; whole = e }
  | indefinite d identifier g h e ↦ absurd d
]

plain_written : (tag : TagValue) (v octets : List ℕ) → Spells Der (primitive tag v) octets → WritesPlain Der tag (λ content. AnyOctets content v) octets
plain_written tag v octets p = record { content = v; is = record { same = refl }; spelled = p }

pair_written : (outer first second : TagValue) (a b text : List ℕ) → Spells Der (constructed outer (more (primitive first a) (more (primitive second b) none))) text
    → (pair outer first second).writes (a, (b, tt)) Der text
pair_written outer first second a b text p =
    let q = p.2.3 in
    let h = headed p.1 in
    record {
      content = p.0;
      is = record {
        first = p.2.0;
        second = p.2.1;
        is_first = plain_written first a p.2.0 p.2.2;
        is_second = plain_written second b p.2.1 (alone_spelled (primitive second b) p.2.1 q);
        whole = p.2.4;
      };
      few = (length_few h.header_is.size (length p.0) h.header_is.size_is).1;
      spelled = p.1;
    }

format_written : (x : PublicKeyFormat) (text : List ℕ) → Spells Der (format_tree x) text → format.writes x Der text
format_written Rsa text p = pair_written sequence_tag oid_tag null_tag rsa_encryption [] text p
format_written Ecdsa text p = pair_written sequence_tag oid_tag oid_tag ec_public_key secp256r1 text p

-- The encoded octets are written.
encodes_written : (k : KeyValue) (text : List ℕ) → IsBits k.bits → Encodes k text → key.writes k Der text
encodes_written k text lawful p =
    let h = headed p.1 in
    let last = k.bits.unused ∷ cleared k.bits.unused k.bits.octets in
    record {
      content = p.0;
      is = record {
        first = p.2.0;
        second = p.2.1;
        is_first = format_written k.format p.2.0 p.2.2;
        is_second = record {
          content = last;
          is = written Der k.bits lawful (λ e. cc);
          spelled = alone_spelled (primitive (universal 3) last) p.2.1 p.2.3;
        };
        whole = p.2.4;
      };
      few = (length_few h.header_is.size (length p.0) h.header_is.size_is).1;
      spelled = p.1;
    }

encodes_few : (k : KeyValue) (text : List ℕ) → Encodes k text → length text < 2 ^ 64
encodes_few k text p =
    let h = headed p.1 in
    let few = length_few h.header_is.size (length p.0) h.header_is.size_is in
    let begins = ap length (h.header_is.whole ∙ ap (λ v. v ++ h.header_is.size) (spelled_identifier h.header_is.identifier (48 ∷ []) true sequence_tag h.header_is.identifier_is sequence_identifies)) in
    let all = ap length h.whole ∙ length-append h.header p.0 in
    omega (arith, few.0, few.1, begins, all)

-- By encoders that lend a key's fields.

pub lent_encodes : {l : Lent} (k : KeyValue) (text : List ℕ) → l ≡ key_lends k → (lent l).writes l.1 Der text → Encodes k text
lent_encodes k text e w = written_encodes k text (subst (λ (m : Lent). (lent m).writes m.1 Der text) e w)

-- Octets that are equal to what was written, from nothing on, are the encoded octets.
pub same_encodes : {l : Lent} (k : KeyValue) {n : ℕ} (before now octets : List ℕ) → l ≡ key_lends k → n ≡ 0
    → Wrote ((lent l).writes l.1 Der) (Some (take n before)) (Some now) → now ≡ octets → Encodes k octets
same_encodes k before now octets e zero w same =
    let all : w.text ≡ octets = sym (w.appended ∙ ap (λ i. take i before ++ w.text) zero) ∙ same in
    subst (Encodes k) all (lent_encodes k w.text e w.is)

pub lent_lacks : {l : Lent} {k : KeyValue} (e : EncodeError) → (e ≡ errors.Memory → ⊥) → l ≡ key_lends k → IsBits k.bits
    → ExtendRefused ((lent l).trees l.1 Der) ((lent l).writes l.1 Der) e → HasEncoding k → ⊥
lent_lacks {l} {k} e other same lawful refused h =
    at e other (subst (λ (m : Lent). ExtendRefused ((lent m).trees m.1 Der) ((lent m).writes m.1 Der) e) same refused)
  where
    at : (e : EncodeError) → (e ≡ errors.Memory → ⊥) → ExtendRefused (key.trees k Der) (key.writes k Der) e → ⊥
    at errors.CerUnsupported n r = let w = encodes_written k h.octets lawful h.encodes in let s = key.spelled k Der h.octets w in r s.trees s.is
    at errors.TooLong n r = r h.octets (encodes_written k h.octets lawful h.encodes) (encodes_few k h.octets h.encodes)
    at errors.Write n r = r
    at errors.Memory n r = n refl
