-- What can be written of a list without entries is written by its encoders, which write no list of entries then.
use Rattle.std.proofs.Common.{◌≡◌, ◌≢◌, ℕ, ◌<◌, ◌≤◌, ◌^◌, ◌/◌, ◌%◌, List, [], ◌∷◌, ◌++◌, length, Option, Some, None, inl, inr, refl, sym, ap, ◌∙◌, subst, arith, length-append}
use Rattle.std.specs.Prelude.{IfSome}
use Rattle.std.proofs.lemmas.Bool.{cases_lt}
use Rattle.certs_crl.specs.bcder_tree.declared.mode.Mode.{Mode}
use Rattle.certs_crl.specs.bcder_tree.declared.mode.Mode.TheVariants.{Der}
use Rattle.certs_crl.specs.bcder_tree.Octets.{IsLength}
use Rattle.certs_crl.specs.bcder_tree.Strings.{octet_string_tag}
use Rattle.certs_crl.specs.bcder_tree.Tags.{TagValue, context, integer_tag, oid_tag, sequence_tag}
use Rattle.certs_crl.specs.bcder_tree.Tree.{definite, primitive}
use Rattle.certs_x509.specs.bcder_primitive.Values.{AnyOctets}
use Rattle.certs_crl.specs.bcder_content.Kept.{CapturedValue}
use Rattle.certs_x509.specs.bcder_primitive.Encoded.{NoText, WritesBoth, WritesPlain, WritesWrapped}
use Rattle.certs_x509.specs.bcder_primitive.Integers.{WritesUnsigned}
use Rattle.certs_x509.specs.bcder_values.Captures.{CapturedText}
use Rattle.certs_x509.specs.bcder_values.Choices.{WritesOptional}
use Rattle.certs_x509.specs.bcder_values.Writable.{Writable}
use Rattle.bcder.specs.bcder_octets.Segments.{WritesString}
use Rattle.bcder.specs.bcder_octets.Wrapping.{WritesAround}
use Rattle.certs_crl.specs.certs_basics.Identifiers as id
use Rattle.certs_crl.specs.certs_basics.Forms.{WritesTime}
use Rattle.certs_basics.proofs.Meanings.{one_written}
use Rattle.certs_key.specs.Algorithms.{AlgorithmValue, algorithm_of, x509_algorithm}
use Rattle.certs_x509.specs.bcder_number.Integers.{IsNatural}
use Rattle.certs_x509.specs.EntryForms.{WritesMoment, same_parts}
use Rattle.certs_x509.specs.certs_extension.CrlText.{TbsListValue}
use Rattle.certs_crl.specs.Written.{WritesCrlNumber, WritesExtension, WritesFields, WritesKey, WritesListExtensions, WritesName, WritesTbsList}
use Rattle.certs_crl.proofs.Writing.{around_as, both_as, plain_as, unsigned_as, wrapped_as}

-- Extensions, as their encoders write them.

pub extension_back : {m inner : Mode} {t a b : TagValue} {octets kind : List ℕ} (P : Mode → List ℕ → Type 0) {V : List ℕ → Type 0} {text : List ℕ}
    → t ≡ sequence_tag → a ≡ oid_tag → octets ≡ kind → b ≡ octet_string_tag → inner ≡ Der → ((content : List ℕ) → V content → P Der content)
    → WritesExtension m kind V text → WritesWrapped m t (WritesBoth (WritesPlain m a (λ o. AnyOctets o octets)) (WritesAround m b (P inner))) text
extension_back P is_tag is_kind same is_string is_der f w =
    wrapped_as (sym is_tag) (λ o v. both_as
    (λ p k. plain_as (sym is_kind) (λ content x. record { same = x.same ∙ sym same }) k)
    (λ p k. around_as (sym is_string) (λ content x. subst (λ (n : Mode). P n content) (sym is_der) (f content x)) k) v) w

pub key_back : {t tag : TagValue} {octets key text : List ℕ} → t ≡ sequence_tag → tag ≡ context 0 → octets ≡ key → WritesKey key text → WritesWrapped Der t (WritesString Der tag octets) text
key_back {tag = tag} {octets} {key} is_tag is_context same w =
    wrapped_as (sym is_tag) (λ o v. subst (λ (k : TagValue). WritesString Der k octets o) (sym is_context) (subst (λ (x : List ℕ). WritesString Der (context 0) x o) (sym same) v)) w

pub number_back : {tag : TagValue} {n number : ℕ} {text : List ℕ} → tag ≡ integer_tag → n ≡ number → WritesCrlNumber number text → WritesPlain Der tag (λ content. IsNatural content n) text
number_back is_tag same w = plain_as (sym is_tag) (λ content p. subst (λ (k : ℕ). IsNatural content k) (sym same) p.is) w

-- Fields, as their encoders write them.

version_back : {version : TagValue} {n : ℕ} → version ≡ integer_tag → n ≡ 1 → (part : List ℕ) → WritesPlain Der integer_tag (WritesUnsigned (2 ^ 8) 1) part → WritesPlain Der version (WritesUnsigned (2 ^ 8) n) part
version_back is_version one part w = plain_as (sym is_version) (λ content p. unsigned_as (sym one) p) w

algorithm_back : {a : AlgorithmValue} (c : TbsListValue) → a ≡ record { kind = id.sha256_with_rsa; has_null = c.has_null } → (part : List ℕ) → x509_algorithm.writes c.has_null Der part
    → (algorithm_of a.kind).writes a.has_null Der part
algorithm_back c e part w = subst (λ (z : AlgorithmValue). (algorithm_of z.kind).writes z.has_null Der part) (sym e) w

name_back : {name : CapturedValue} (c : TbsListValue) → name ≡ c.issuer → (part : List ℕ) → WritesName c.issuer Der part → CapturedText name Der part
name_back c e part w = subst (λ (z : CapturedValue). CapturedText z Der part) (sym e) w.kept

moment_back : {moment : ℕ} {tag : TagValue} {x : List ℕ} → WritesTime moment (primitive tag x) → (part : List ℕ) → WritesMoment moment Der part → WritesPlain Der tag (λ octets. AnyOctets octets x) part
moment_back {moment} {tag} {x} is part w =
    let same = same_parts (one_written moment (primitive w.tag w.content) (primitive tag x) w.is is) in
    subst (λ (t : TagValue). WritesPlain Der t (λ octets. AnyOctets octets x) part) same.0
    (subst (λ (o : List ℕ). WritesPlain Der w.tag (λ octets. AnyOctets octets o) part) same.1 w.plain)

-- No list of entries is lent where there are no entries.
pub none_back : {A V : Type 0} {all : List A} (P : V → List ℕ → Type 0) (o : Option V) → IfSome o (λ v. all ≢ []) → all ≡ [] → (part : List ℕ) → NoText part → WritesOptional P o part
none_back P None some none part w = w
none_back P (Some v) some none part w = absurd (some none)

-- Octets of P of which there aren't more.
record NoLonger (P : List ℕ → Type 0) (text : List ℕ) : Type 0 where
  again : List ℕ
  is : P again
  shorter : length again ≤ length text

both_shorter : {P Q W : List ℕ → Type 0} → ((part : List ℕ) → Q part → NoLonger W part) → (text : List ℕ) → WritesBoth P Q text → NoLonger (WritesBoth P W) text
both_shorter g text w =
    let s = g w.second w.is_second in
    record {
      again = w.first ++ s.again;
      is = record { first = w.first; second = s.again; is_first = w.is_first; is_second = s.is; whole = refl };
      shorter = omega (arith, length-append w.first s.again, length-append w.first w.second, ap length w.whole, s.shorter);
    }

last_alone : {P R E : List ℕ → Type 0} → ((part : List ℕ) → NoText part → R part) → (text : List ℕ) → WritesBoth P E text → NoLonger (WritesBoth R E) text
last_alone none text w = record {
  again = w.second;
  is = record { first = []; second = w.second; is_first = none [] refl; is_second = w.is_second; whole = refl };
  shorter = omega (arith, length-append w.first w.second, ap length w.whole);
}

-- A length that four octets can tell, in the fewest (X.690 8.1.3, 10.1).
size_of : (n : ℕ) → n < 2 ^ 32 → (size : List ℕ) × IsLength Der size n × (length size ≤ 5)
size_of n few = elim (cases_lt n 128) [
  | inl a ↦ (n ∷ [], (a, refl), omega arith)
  | inr a ↦ elim (cases_lt n 256) [
    | inl b ↦ (129 ∷ n ∷ [], (refl, b, refl, a), omega arith)
    | inr b ↦ elim (cases_lt n 65536) [
      | inl c ↦ (130 ∷ n / 256 ∷ n % 256 ∷ [], (refl, omega arith, omega arith, omega arith, b), omega arith)
      | inr c ↦ elim (cases_lt n 16777216) [
        | inl d ↦ (131 ∷ n / 65536 ∷ n / 256 % 256 ∷ n % 256 ∷ [], (refl, omega arith, omega arith, omega arith, omega arith, c), omega arith)
        | inr d ↦ (132 ∷ n / 16777216 ∷ n / 65536 % 256 ∷ n / 256 % 256 ∷ n % 256 ∷ [], (refl, omega arith, omega arith, omega arith, omega arith, omega arith, d), omega arith)
      ]
    ]
  ]
]

-- What isn't longer than a content stands in a SEQUENCE.
in_sequence : {t : TagValue} {P : List ℕ → Type 0} (content : List ℕ) → t ≡ sequence_tag → P content → length content < 2 ^ 32 → Writable (WritesWrapped Der t P)
in_sequence {t} {P} content is_tag is few =
    let s = size_of (length content) few in
    subst (λ (k : TagValue). Writable (WritesWrapped Der k P)) (sym is_tag) (record {
      text = (48 ∷ s.0) ++ content;
      is = record {
        content = content;
        is = is;
        few = few;
        spelled = definite tt (48 ∷ s.0) (record { identifier = 48 ∷ []; size = s.0; whole = refl; tag = (omega arith, omega arith); identifier_is = (refl, omega arith); size_is = s.1 }) refl;
      };
      counted = omega (arith, length-append (48 ∷ s.0) content, s.2, few);
    })

-- All fields: what can be written of a list without entries is written without octets for them.
pub alone_written : {R : List ℕ → Type 0} {P : List ℕ → Type 0} (c : TbsListValue) → ((part : List ℕ) → NoText part → R part) → ((text : List ℕ) → WritesFields R c Der text → P text)
    → (text : List ℕ) → WritesTbsList c Der text → Writable P
alone_written c none write text w =
    let l = both_shorter (both_shorter (both_shorter (both_shorter (both_shorter (last_alone none))))) w.fields.content w.fields.is in
    let s = in_sequence l.again refl l.is (omega (arith, l.shorter, w.fields.few)) in
    record { text = s.text; is = write s.text (record { long = w.long; fields = s.is }); counted = s.counted }

-- What is written of all fields is written by their encoders.
module _ {t version b d : TagValue} {n : ℕ} {a : AlgorithmValue} {name : CapturedValue} {x y : List ℕ} {R E : List ℕ → Type 0} (c : TbsListValue) where
  pub list_back : t ≡ sequence_tag → version ≡ integer_tag → n ≡ 1
      → a ≡ record { kind = id.sha256_with_rsa; has_null = c.has_null } → name ≡ c.issuer → WritesTime c.this_update (primitive b x) → WritesTime c.next_update (primitive d y)
      → ((part : List ℕ) → WritesListExtensions c.authority_key_identifier c.number Der part → E part) → (text : List ℕ) → WritesFields R c Der text
      → WritesWrapped Der t
      (WritesBoth (WritesPlain Der version (WritesUnsigned (2 ^ 8) n))
      (WritesBoth ((algorithm_of a.kind).writes a.has_null Der)
      (WritesBoth (CapturedText name Der)
      (WritesBoth (WritesPlain Der b (λ octets. AnyOctets octets x))
      (WritesBoth (WritesPlain Der d (λ octets. AnyOctets octets y))
      (WritesBoth R E)))))) text
  list_back is_tag is_version one algorithm issuer this_update next_update extensions text w =
      wrapped_as (sym is_tag) (λ o. both_as (version_back is_version one)
      (λ o. both_as (algorithm_back c algorithm)
      (λ o. both_as (name_back c issuer)
      (λ o. both_as (moment_back this_update)
      (λ o. both_as (moment_back next_update)
      (λ o. both_as (λ part h. h) extensions)))))) w.fields
