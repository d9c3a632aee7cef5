-- What is written of a bundle, and of its parts, is what spells it.
use Rattle.std.proofs.Common.{◌≡◌, ℕ, ◌+◌, ◌*◌, ◌^◌, ◌<◌, ◌≤◌, Bool, List, [], ◌∷◌, ◌++◌, length, All, inl, inr, refl, sym, ap, ◌∙◌, subst, arith}
use Rattle.std.proofs.lemmas.Bool.{cases_lt}
use Rattle.std.proofs.lemmas.List.Elements.{All-cons, All-nil}
use Rattle.rpki_bundle.specs.bcder_tree.declared.mode.Mode.TheVariants.{Der}
use Rattle.rpki_bundle.specs.bcder_tree.Tags.{boolean_tag, generalized_time_tag, ia5_string_tag, printable_string_tag, sequence_tag}
use Rattle.rpki_bundle.specs.bcder_tree.Integers.{number_behind, IsShortest}
use Rattle.rpki_bundle.specs.bcder_tree.Strings.{IsIa5, octet_string_tag}
use Rattle.rpki_bundle.specs.bcder_primitive.Values.{AnyOctets, IsBoolean, IsUnsigned}
use Rattle.rpki_bundle.specs.bcder.Sets.{alone}
use Rattle.rpki_bundle.specs.bcder.Texts.{IsText as IsTextOf}
use Rattle.rpki_bundle.proofs.of_bcder.Ascii.{ascii_text}
use Rattle.rpki_bundle.specs.bcder_content.Grammar.{Inside}
use Rattle.rpki_bundle.specs.bcder_primitive.Encoded.{WritesPlain, WritesWrapped, WritesBoth}
use Rattle.rpki_bundle.specs.bcder_primitive.Integers.{WritesUnsigned}
use Rattle.rpki_bundle.specs.bcder_values.Lists.{WritesAll}
use Rattle.rpki_bundle.specs.declared.parts.Locator.{Locator}
use Rattle.rpki_bundle.specs.declared.parts.Object.{Object}
use Rattle.rpki_bundle.specs.declared.parts.Verdict.{Verdict}
use Rattle.rpki_bundle.specs.declared.version.Version.{Version}
use Rattle.rpki_bundle.specs.declared.version.Version.TheVariants.{Zero, One}
use Rattle.certs_basics.specs.Times.{IsMoment}
use Rattle.certs_basics.proofs.Moments.{one_text}
use Rattle.certs_basics.specs.Uris.{IsUri, IsUriOctet, IsLookupKey}
use Rattle.rpki_bundle.specs.bcder_tree.Tree.{Tree, Trees, SpellsAll}
use Rattle.rpki_bundle.specs.Bundle.{BundleValue, number_of, IsNumber, IsFlag, FlagCases, Flag, IsMomentString, IsDepth, IsDigestString, Digests, BundleFields, AreLists, AreBundleFields, as_locator, as_object, as_verdict, as_bundle, IsLocator, IsObject, IsVerdict, verdict_row, IsAscendingList, IsBundle}
use Rattle.rpki_bundle.specs.Lawful.{IsLawfulLocator, IsLawfulObject, IsLawfulVerdict, IsLawfulList, IsLawful}
use Rattle.rpki_bundle.specs.PartFields.{locator_fields, object_fields}
use Rattle.rpki_bundle.specs.Written.{WritesText, WritesInteger, WritesFlag, WritesLocator, WritesObject, WritesVerdict, WritesBundle}
use Rattle.rpki_bundle.proofs.Agree.{Agree, AgreeAll, joins, joins_by, last, each, inside, such, means, means_of, lawful_as, plain, string}

-- What is read further makes no number smaller.
number_grows : (before : ℕ) (v : List ℕ) → before ≤ number_behind before v
number_grows before [] = omega arith
number_grows before (a ∷ v) = omega (arith, number_grows (before * 256 + a) v)

-- A number of three octets or more isn't below 256.
three_octets : (a b c : ℕ) (v : List ℕ) → IsShortest (a ∷ b ∷ c ∷ v) → number_behind (((0 * 256 + a) * 256 + b) * 256 + c) v < 256 → ⊥
three_octets a b c v s low = elim (cases_lt 0 a) [
  | inl h ↦ omega (arith, number_grows (((0 * 256 + a) * 256 + b) * 256 + c) v)
  | inr h ↦ let high : 128 ≤ b = s.0 (omega arith) in omega (arith, number_grows (((0 * 256 + a) * 256 + b) * 256 + c) v)
]

abbrev IsOctet : ℕ → Type 0
IsOctet a = a < 256

-- The content of a number below 256 are octets.
number_octets : (v : List ℕ) {n : ℕ} → IsUnsigned (2 ^ 8) v n → All IsOctet v
number_octets [] u = absurd u.shortest
number_octets (a ∷ []) u = let low : a < 128 = u.positive in All-cons IsOctet a [] (omega arith) (All-nil IsOctet)
number_octets (a ∷ b ∷ []) {n} u =
    let value : (0 * 256 + a) * 256 + b ≡ n = u.value in
    let below : n < 256 = u.below in
    All-cons IsOctet a (b ∷ []) (omega arith) (All-cons IsOctet b [] (omega arith) (All-nil IsOctet))
number_octets (a ∷ b ∷ c ∷ v) {n} u =
    let value : number_behind (((0 * 256 + a) * 256 + b) * 256 + c) v ≡ n = u.value in
    let below : n < 256 = u.below in absurd (three_octets a b c v u.shortest (omega arith))

-- Numbers, moments and digests.
number : (n : ℕ) → Agree IsNumber n (WritesInteger Der n) (Unit {0})
number n = plain (WritesUnsigned (2 ^ 8) n) (Unit {0}) (λ c p. (record { octets = number_octets c p; is = p }, tt)) (λ c w l. w.is)

moment : (text : List ℕ) (n : ℕ) → IsMoment text n → Agree IsMomentString n (WritesText Der generalized_time_tag text) (Unit {0})
moment text n m = plain (λ c. AnyOctets c text) (Unit {0}) (λ c p. (record { same = one_text c text n p m }, tt)) (λ c w l. subst (λ (z : List ℕ). IsMoment z n) (sym w.same) m)

digest : (x : List ℕ) → Agree IsDigestString x (WritesText Der octet_string_tag x) (length x ≡ 32)
digest x = plain (λ c. AnyOctets c x) (length x ≡ 32) (λ c p. (record { same = p.same }, ap length (sym p.same) ∙ p.long)) (λ c w l. record { same = w.same; long = ap length w.same ∙ l })

-- URIs are IA5.
plain_uri : {uri : List ℕ} → IsUri uri → All IsUriOctet uri
plain_uri (inl r) = r.plain
plain_uri (inr r) = r.plain

uri_text : {uri : List ℕ} → IsLookupKey uri → IsTextOf IsIa5 alone uri
uri_text {uri} k = (ascii_text IsIa5 uri).1 (λ i d h. let octet = plain_uri k.uri i d h in omega arith)

-- The entries of lists.
locator : (l : Locator) → Agree (IsLocator Der) l (WritesLocator l Der) (IsLawfulLocator l)
locator l =
    lawful_as (means as_locator locator_fields (λ x. refl) refl (inside (joins (such (such (string printable_string_tag l.name))) (last (string octet_string_tag l.text)))))
    (λ h. (h.0.0.1, h.0.1)) (λ n. (((tt, n.0), n.1), tt))

object : (o : Object) → Agree (IsObject Der) o (WritesObject o Der) (IsLawfulObject o)
object o =
    lawful_as (means as_object object_fields (λ x. refl) refl (inside (joins (such (such (string ia5_string_tag o.uri))) (last (string octet_string_tag o.octets)))))
    (λ h. h.0.1) (λ k. (((tt, uri_text k), k), tt))

abbrev digest_fields : Verdict → Digests
digest_fields v = (v.key, (v.message, (v.signature, tt)))

verdict : (v : Verdict) → Agree IsVerdict v (WritesVerdict v Der) (IsLawfulVerdict v)
verdict v =
    lawful_as (means as_verdict digest_fields (λ x. refl) refl (inside (joins (digest v.key) (joins (digest v.message) (last (digest v.signature))))))
    (λ h. (h.0, h.1.0, h.1.1)) (λ d. (d.0, (d.1, d.2)))

-- A list.
list : {A : Type 0} {Q : Tree → A → Type 0} {W : A → List ℕ → Type 0} {law : A → Type 0} (row : A → List ℕ) → ((x : A) → Agree Q x (W x) (law x)) → (xs : List A)
    → Agree (IsAscendingList Q row) xs (WritesWrapped Der sequence_tag (WritesAll W xs)) (IsLawfulList law row xs)
list row entry xs = lawful_as (such (inside (each entry xs))) (λ h. record { each = h.0; ascend = h.1 }) (λ l. (l.each, l.ascend))

-- A flag, in version 1 alone, and what comes after it.
boolean : (x : Bool) → Agree (IsFlag Der) x (WritesPlain Der boolean_tag (λ c. IsBoolean Der c x)) (Unit {0})
boolean x = plain (λ c. IsBoolean Der c x) (Unit {0}) (λ c p. (p, tt)) (λ c w l. w)

flag : {A : Type 0} {R : Trees → A → Type 0} {x : A} {W : List ℕ → Type 0} {l : Type 0} (v : Version) → AgreeAll R x W l → AgreeAll (Flag Der (number_of v) R) (v, x) (WritesBoth (WritesFlag Der v) W) l
flag Zero a = record {
  to = λ text s.
      let r = a.to text (record { trees = s.trees; is = s.is.cases.1; spelled = s.spelled }) in
      (record { first = []; second = text; is_first = refl; is_second = r.0; whole = refl }, r.1);
  back = λ text w law.
      let r = a.back w.second w.is_second law in
      let whole : text ≡ w.second = w.whole ∙ ap (λ (z : List ℕ). z ++ w.second) w.is_first in
      record { trees = r.trees; is = record { cases = (refl, r.is) }; spelled = subst (λ (z : List ℕ). SpellsAll Der r.trees z) (sym whole) r.spelled };
}
flag (One relaxed) a =
    let both = joins (boolean relaxed) a in record {
      to = λ text s. let r = both.to text (record { trees = s.trees; is = s.is.cases.1; spelled = s.spelled }) in (r.0, r.1.1);
      back = λ text w law. let r = both.back text w (tt, law) in record { trees = r.trees; is = record { cases = (refl, r.is) }; spelled = r.spelled };
    }

-- The fields of a bundle, whose number its version tells.
abbrev fields_of : BundleValue → BundleFields
fields_of b = (number_of b.version, (b.moment, (b.depth, (b.version, (b.locators, (b.objects, (b.verdicts, tt)))))))

number_is : {A : Type 0} (n : ℕ) (R : Trees → A → Type 0) (ts : Trees) (x : A) (v : Version) → FlagCases Der n R ts v x → n ≡ number_of v
number_is n R ts x Zero c = c.0
number_is n R ts x (One relaxed) c = c.0

fields_told : (t : Tree) (f : BundleFields) → Inside sequence_tag (AreBundleFields Der) t f → fields_of (as_bundle f) ≡ f
fields_told t f p = ap (λ (n : ℕ). (n, f.1)) (sym (number_is f.0 (AreLists Der) p.is.rest.rest.others f.1.1.1.1 f.1.1.1.0 p.is.rest.rest.rest.cases))

-- A bundle, whose moment has that text.
pub bundle : (text : List ℕ) (b : BundleValue) → IsMoment text b.moment → Agree (IsBundle Der) b (WritesBundle text b Der) (IsLawful b)
bundle text b m =
    lawful_as
    (means_of as_bundle fields_of fields_told refl
    (inside
    (joins_by (number (number_of b.version))
    (joins (moment text b.moment m)
    (joins (such (number b.depth))
    (flag b.version
    (joins (list (λ l. l.name) locator b.locators)
    (joins (list (λ o. o.uri) object b.objects)
    (last (list verdict_row verdict b.verdicts))))))))))
    (λ h. let d : IsDepth b.depth = h.1.1.0.1 in record { lowest = d.0; greatest = d.1; locators = h.1.1.1.0; objects = h.1.1.1.1.0; verdicts = h.1.1.1.1.1 })
    (λ l. (tt, (tt, ((tt, (l.lowest, l.greatest)), (l.locators, (l.objects, l.verdicts))))))
