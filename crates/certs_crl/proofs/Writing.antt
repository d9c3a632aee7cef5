-- What is written of a revocation list's encoders is what is written of its fields.
use Rattle.std.proofs.Common.{◌≡◌, ◌≢◌, ℕ, ◌<◌, ◌^◌, Bool, List, [], Option, Some, None, Result, Ok, Err, IfOk, inl, inr, refl, sym, ◌∙◌, subst}
use Rattle.std.specs.Prelude.{IfNone, IfSome}
use Rattle.std.proofs.Math.Logic.{∥∥₁_elim, ∥∥₁_prop}
use Rattle.certs_crl.specs.bcder_tree.declared.mode.Mode.{Mode}
use Rattle.certs_crl.specs.bcder_tree.declared.mode.Mode.TheVariants.{Der}
use Rattle.certs_crl.specs.bcder_tree.Strings.{octet_string_tag}
use Rattle.certs_crl.specs.bcder_tree.Tags.{TagValue, context, integer_tag, oid_tag, sequence_tag}
use Rattle.certs_crl.specs.bcder_tree.Tree.{primitive}
use Rattle.certs_x509.specs.bcder_primitive.Values.{AnyOctets}
use Rattle.certs_crl.specs.bcder_content.Kept.{CapturedValue}
use Rattle.certs_x509.specs.bcder_primitive.Encoded.{WritesBoth, WritesPlain, WritesWrapped}
use Rattle.certs_x509.specs.bcder_primitive.Integers.{WritesUnsigned}
use Rattle.certs_x509.specs.bcder_values.Captures.{CapturedText}
use Rattle.certs_x509.specs.bcder_values.Choices.{WritesOptional}
use Rattle.bcder.specs.bcder_octets.Segments.{WritesString}
use Rattle.bcder.specs.bcder_octets.Wrapping.{WritesAround}
use Rattle.certs_crl.specs.certs_basics.Basics.{IsTwentyLong}
use Rattle.certs_crl.specs.certs_basics.Identifiers as id
use Rattle.certs_crl.specs.certs_basics.Forms.{WritesTime}
use Rattle.certs_key.specs.Algorithms.{AlgorithmValue, algorithm_of, x509_algorithm}
use Rattle.certs_name.specs.Named.{IsNamed}
use Rattle.certs_x509.specs.bcder_number.Integers.{IsNatural}
use Rattle.certs_x509.proofs.Made.{written_entries}
use Rattle.certs_x509.specs.EntryForms.{entry_list}
use Rattle.certs_x509.specs.Listed.{SpellsEntries, captured}
use Rattle.certs_x509.specs.certs_extension.CrlText.{RevokedValue, TbsListValue}
use Rattle.certs_crl.specs.Written.{WritesCrlNumber, WritesExtension, WritesFields, WritesInDer, WritesKey, WritesListExtensions, WritesListed, WritesRevoked, WritesTbsList}

-- Words: another text for the same parts.

pub wrapped_as : {m : Mode} {t tag : TagValue} {P V : List ℕ → Type 0} {text : List ℕ} → t ≡ tag → ((content : List ℕ) → P content → V content) → WritesWrapped m t P text → WritesWrapped m tag V text
wrapped_as {m} {V = V} {text} e f w =
    subst (λ (k : TagValue). WritesWrapped m k V text) e (record { content = w.content; is = f w.content w.is; few = w.few; spelled = w.spelled })

pub plain_as : {m : Mode} {t tag : TagValue} {P V : List ℕ → Type 0} {text : List ℕ} → t ≡ tag → ((content : List ℕ) → P content → V content) → WritesPlain m t P text → WritesPlain m tag V text
plain_as {m} {V = V} {text} e f w =
    subst (λ (k : TagValue). WritesPlain m k V text) e (record { content = w.content; is = f w.content w.is; spelled = w.spelled })

pub around_as : {m : Mode} {t tag : TagValue} {P V : List ℕ → Type 0} {text : List ℕ} → t ≡ tag → ((content : List ℕ) → P content → V content) → WritesAround m t P text → WritesAround m tag V text
around_as e f w = record { not_cer = w.not_cer; plain = plain_as e f w.plain }

pub both_as : {P V Q W : List ℕ → Type 0} {text : List ℕ} → ((part : List ℕ) → P part → V part) → ((part : List ℕ) → Q part → W part) → WritesBoth P Q text → WritesBoth V W text
both_as f g w = record { first = w.first; second = w.second; is_first = f w.first w.is_first; is_second = g w.second w.is_second; whole = w.whole }

-- Extensions.

-- An extension's encoder: its tags, its identifier, the mode of its value, and what is written of that in DER.
pub extension_as : {m inner : Mode} {t a b : TagValue} {octets kind : List ℕ} (P : Mode → List ℕ → Type 0) {V : List ℕ → Type 0} {text : List ℕ}
    → t ≡ sequence_tag → a ≡ oid_tag → octets ≡ kind → b ≡ octet_string_tag → inner ≡ Der → ((content : List ℕ) → P Der content → V content)
    → WritesWrapped m t (WritesBoth (WritesPlain m a (λ o. AnyOctets o octets)) (WritesAround m b (P inner))) text → WritesExtension m kind V text
extension_as P is_tag is_kind same is_string is_der f w =
    wrapped_as is_tag (λ o v. both_as
    (λ p k. plain_as is_kind (λ content x. record { same = x.same ∙ same }) k)
    (λ p k. around_as is_string (λ content x. f content (subst (λ (n : Mode). P n content) is_der x)) k) v) w

pub key_as : {t tag : TagValue} {octets key text : List ℕ} → t ≡ sequence_tag → tag ≡ context 0 → octets ≡ key → WritesWrapped Der t (WritesString Der tag octets) text → WritesKey key text
key_as {tag = tag} {octets} {key} is_tag is_context same w =
    wrapped_as is_tag (λ o v. subst (λ (k : TagValue). WritesString Der k key o) is_context (subst (λ (x : List ℕ). WritesString Der tag x o) same v)) w

pub number_as : {tag : TagValue} {n number : ℕ} {text : List ℕ} → number < 2 ^ 160 → tag ≡ integer_tag → n ≡ number → WritesPlain Der tag (λ content. IsNatural content n) text → WritesCrlNumber number text
number_as small is_tag same w = plain_as is_tag (λ content p. record { is = subst (λ (k : ℕ). IsNatural content k) same p; small = small }) w

-- Entries.

-- What is lent of a list, if there is something.
abbrev pub LentEntries : {V : Type 0} (tag : V → TagValue) (octets : V → CapturedValue) → Mode → V → List ℕ → Type 0
LentEntries tag octets m v = WritesWrapped m (tag v) (CapturedText (octets v) m)

pub revoked_as : {V : Type 0} (tag : V → TagValue) (octets : V → CapturedValue) (all : List RevokedValue) (m : Mode) (text : List ℕ) (o : Option V)
    → IfNone o (all ≡ []) → IfSome o (λ v. tag v ≡ sequence_tag) → IfSome o (λ v. ∥ SpellsEntries (octets v) all ∥₁)
    → WritesOptional (LentEntries tag octets m) o text → ∥ WritesRevoked all m text ∥₁
revoked_as tag octets all m text None none_there is_tag spells w = ∣ inl (none_there, w) ∣₁
revoked_as tag octets all m text (Some v) none_there is_tag spells w =
    ∥∥₁_elim spells ∥∥₁_prop (λ s. ∣ inr (record { octets = octets v; spelled = s; kept = wrapped_as is_tag (λ o p. p) w }) ∣₁)

-- Entries by what they say.

-- What is lent of entries that are gone through, if there are some.
abbrev pub LentListed : {V : Type 0} (tag : V → TagValue) (items : V → List RevokedValue) → V → List ℕ → Type 0
LentListed tag items v = WritesWrapped Der (tag v) (entry_list.writes (items v) Der)

module _ {V : Type 0} (tag : V → TagValue) (items : V → List RevokedValue) (all : List RevokedValue) (text : List ℕ) where
  pub listed_as : (o : Option V) → IfNone o (all ≡ []) → IfSome o (λ v. all ≢ []) → IfSome o (λ v. tag v ≡ sequence_tag) → IfSome o (λ v. items v ≡ all)
      → WritesOptional (LentListed tag items) o text → WritesListed all text
  listed_as None none some is_tag same w = inl (none, w)
  listed_as (Some v) none some is_tag same w = inr (some, wrapped_as is_tag (λ o p. subst (λ (l : List RevokedValue). entry_list.writes l Der o) same p) w)

  pub listed_back : (o : Option V) → IfNone o (all ≡ []) → IfSome o (λ v. all ≢ []) → IfSome o (λ v. tag v ≡ sequence_tag) → IfSome o (λ v. items v ≡ all)
      → WritesListed all text → WritesOptional (LentListed tag items) o text
  listed_back None none some is_tag same (inl w) = w.1
  listed_back None none some is_tag same (inr w) = absurd (w.0 none)
  listed_back (Some v) none some is_tag same (inl w) = absurd (some w.0)
  listed_back (Some v) none some is_tag same (inr w) = wrapped_as (sym is_tag) (λ o p. subst (λ (l : List RevokedValue). entry_list.writes l Der o) (sym same) p) w.1

-- They spell the entries.
pub listed_stand : (all : List RevokedValue) (text : List ℕ) → WritesListed all text → WritesRevoked all Der text
listed_stand all text (inl w) = inl w
listed_stand all text (inr w) =
    let spelled = written_entries all w.1.content w.1.is in
    inr (record {
      octets = captured Der w.1.content;
      spelled = spelled;
      kept = record {
        content = w.1.content;
        is = record { stands = inr refl; values = record { trees = spelled.trees; spelled = spelled.spelled }; whole = refl };
        few = w.1.few;
        spelled = w.1.spelled;
      };
    })

-- All fields.

pub unsigned_as : {n k : ℕ} {content : List ℕ} → n ≡ k → WritesUnsigned (2 ^ 8) n content → WritesUnsigned (2 ^ 8) k content
unsigned_as {content = content} e p = subst (λ (z : ℕ). WritesUnsigned (2 ^ 8) z content) e p

algorithm_as : {a : AlgorithmValue} {b : Bool} {m : Mode} {text : List ℕ} → a ≡ record { kind = id.sha256_with_rsa; has_null = b } → (algorithm_of a.kind).writes a.has_null m text
    → x509_algorithm.writes b m text
algorithm_as {m = m} {text} e w = subst (λ (z : AlgorithmValue). (algorithm_of z.kind).writes z.has_null m text) e w

module _ {t version b d : TagValue} {n : ℕ} {a : AlgorithmValue} {name : CapturedValue} {x y : List ℕ} {R E : List ℕ → Type 0} (c : TbsListValue) (m : Mode) where
  pub list_by : (text : List ℕ) → IsTwentyLong c.authority_key_identifier → IsNamed c.issuer → t ≡ sequence_tag → version ≡ integer_tag → n ≡ 1
      → a ≡ record { kind = id.sha256_with_rsa; has_null = c.has_null } → name ≡ c.issuer → WritesTime c.this_update (primitive b x) → WritesTime c.next_update (primitive d y)
      → ((part : List ℕ) → E part → WritesListExtensions c.authority_key_identifier c.number m part)
      → WritesWrapped m t
      (WritesBoth (WritesPlain m version (WritesUnsigned (2 ^ 8) n))
      (WritesBoth ((algorithm_of a.kind).writes a.has_null m)
      (WritesBoth (CapturedText name m)
      (WritesBoth (WritesPlain m b (λ octets. AnyOctets octets x))
      (WritesBoth (WritesPlain m d (λ octets. AnyOctets octets y))
      (WritesBoth R E)))))) text
      → WritesFields R c m text
  list_by text long named is_tag is_version one algorithm issuer this_update next_update extensions w = record {
    long = long;
    fields = wrapped_as is_tag (λ o. both_as (λ p h. plain_as is_version (λ q k. unsigned_as one k) h)
        (λ o. both_as (λ p h. algorithm_as algorithm h)
        (λ o. both_as (λ p h. record { named = named; kept = subst (λ (z : CapturedValue). CapturedText z m p) issuer h })
        (λ o. both_as (λ p h. record { tag = b; content = x; is = this_update; plain = h })
        (λ o. both_as (λ p h. record { tag = d; content = y; is = next_update; plain = h })
        (λ o. both_as (λ p h. h) extensions)))))) w;
  }

-- Another text for the entries.

-- The same octets, of V and W.
both_at : {P Q V W : List ℕ → Type 0} {text : List ℕ} → (w : WritesBoth P Q text) → V w.first → W w.second → WritesBoth V W text
both_at w p q = record { first = w.first; second = w.second; is_first = p; is_second = q; whole = w.whole }

-- What stands there of the entries.
abbrev entries_in : {R : List ℕ → Type 0} {c : TbsListValue} {m : Mode} {text : List ℕ} → WritesFields R c m text → List ℕ
entries_in w = w.fields.is.is_second.is_second.is_second.is_second.is_second.first

fields_at : {R V : List ℕ → Type 0} {c : TbsListValue} {m : Mode} {text : List ℕ} → (w : WritesFields R c m text) → V (entries_in w) → WritesFields V c m text
fields_at w r =
    let l1 = w.fields.is in
    let l2 = l1.is_second in
    let l3 = l2.is_second in
    let l4 = l3.is_second in
    let l5 = l4.is_second in
    let l6 = l5.is_second in
    record {
      long = w.long;
      fields = record {
        content = w.fields.content;
        is = both_at l1 l1.is_first (both_at l2 l2.is_first (both_at l3 l3.is_first (both_at l4 l4.is_first (both_at l5 l5.is_first (both_at l6 r l6.is_second)))));
        few = w.fields.few;
        spelled = w.fields.spelled;
      };
    }

-- The entries stand there.
pub entries_stand : {R : List ℕ → Type 0} {c : TbsListValue} {m : Mode} {text : List ℕ} → WritesFields R c m text → (part : List ℕ) × R part
entries_stand w = (entries_in w, w.fields.is.is_second.is_second.is_second.is_second.is_second.is_first)

pub fields_as : {R V : List ℕ → Type 0} {c : TbsListValue} {m : Mode} {text : List ℕ} → ((part : List ℕ) → R part → V part) → WritesFields R c m text → WritesFields V c m text
unfolding entries_stand
fields_as f w = let e = entries_stand w in fields_at w (f e.0 e.1)

pub list_as : {R : List ℕ → Type 0} (c : TbsListValue) (m : Mode) (text : List ℕ) → ((part : List ℕ) → R part → ∥ WritesRevoked c.revoked m part ∥₁) → WritesFields R c m text
    → ∥ WritesTbsList c m text ∥₁
list_as c m text f w =
    ∥∥₁_elim (f (entries_in w) w.fields.is.is_second.is_second.is_second.is_second.is_second.is_first) ∥∥₁_prop (λ r. ∣ fields_at w r ∣₁)

pub list_stands : (c : TbsListValue) (text : List ℕ) → WritesInDer c text → WritesTbsList c Der text
list_stands c text w = fields_as (listed_stand c.revoked) w

-- What an answer's value is, by what it was.
pub ok_map : {A E : Type 0} {P Q : A → Type 0} (r : Result A E) → ((x : A) → P x → Q x) → IfOk r P → IfOk r Q
ok_map (Ok x) f p = f x p
ok_map (Err e) f p = tt
