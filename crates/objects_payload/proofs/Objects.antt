-- Octets are one signed object at most, in DER and in BER, with one content; and more good signatures leave it sound.
use Rattle.std.proofs.Common.{◌≡◌, inl, inr, ℕ, Bool, List, [], ◌∷◌, ◌++◌, Option, Some, None, refl, sym, ap, ◌∙◌, subst, append_assoc}
use Rattle.objects_payload.specs.bcder_tree.declared.mode.Mode.{Mode}
use Rattle.objects_payload.specs.bcder_tree.declared.mode.Mode.TheVariants.{Der}
use Rattle.objects_payload.specs.bcder_tree.Tags.{context, ia5_string_tag, oid_tag, sequence_tag}
use Rattle.objects_payload.specs.bcder_tree.Tree.{Tree, Trees}
use Rattle.objects_payload.specs.bcder_tree.Strings.{octet_string_tag}
use Rattle.objects_payload.proofs.of_bcder.Read.{oid_one}
use Rattle.objects_payload.proofs.of_bcder_octets.BitReadings.{bit_string_one}
use Rattle.objects_payload.specs.bcder_content.Grammar.{Inside, OctetsOf, Then, Many, End, One, OneAll, OneOctets}
use Rattle.objects_payload.proofs.of_bcder_content.Unique.{octets_one, octets_tagged, such_one, inside_one, inside_tagged, then_one, opt_one, many_one, end_one, as_one, unsigned_one, same_trees}
use Rattle.objects_payload.specs.resources_ip_prefix.declared.addr.AddressFamily.{AddressFamily}
use Rattle.objects_payload.specs.resources_ip_prefix.declared.addr.AddressFamily.TheVariants.{Ipv4, Ipv6}
use Rattle.objects_payload.specs.resources_ip_prefix.Encodings.{IsFamily}
use Rattle.objects_payload.specs.resources_ip_prefix.Meanings.{address_one, family_one}
use Rattle.objects_payload.specs.certs_basics.Times.{IsMoment}
use Rattle.objects_payload.proofs.of_certs_basics.Moments.{one_moment}
use Rattle.objects_payload.specs.bcder_content.Texts.{InFront, ReadsFront}
use Rattle.objects_payload.specs.certs_basics.Basics.{OptNull}
use Rattle.objects_payload.specs.certs_basics.HandedIn.{Digests}
use Rattle.objects_payload.specs.certs_basics.Verdicts.{Verdicts, Within}
use Rattle.objects_payload.proofs.of_bcder_content.Fronts.{OneFront, spells_one, order_one, none_one, octets_too_before, joins_one, wraps_one, in_front_one}
use Rattle.objects_payload.proofs.of_bcder_content.Simple.{itself_one, unit_one}
use Rattle.objects_payload.proofs.of_certs_basics.Values.{gathers_one, serial_one, opt_null_one, key_identifier_one, string_one}
use Rattle.objects_payload.proofs.of_certs_extension.Values.{time_one, reads_one, same_some}
use Rattle.objects_payload.proofs.of_certs_extension.Certs.{spelled_cert_one}
use Rattle.objects_payload.specs.Identifiers as id
use Rattle.objects_payload.specs.SignedAttributes.{Attribute, AttributesValue, IsAttribute, IsOnce, those_of, AreSigned, AreAttributes}
use Rattle.objects_payload.specs.ObjectText.{Object, SpellsSigner, SpellsSignedData, SpellsContentInfo, SpellsObject, ObjectFields, object_of, ObjectText, Sound}
use Rattle.objects_payload.specs.Contents.{IsVersion, ReadsAs}
use Rattle.objects_payload.specs.Manifests.{Manifest, IsFile, IsManifest, ManifestText}
use Rattle.objects_payload.specs.Roas.{RoaAddress, Roa, FamilyAddresses, AreFamilyFields, IsRoaAddress, IsRoaFamily, FamilyPair, AreOf, AreRoaFamilies, IsRoa, RoaText}
use Rattle.objects_payload.specs.Aspas.{Aspa, IsAspa, AspaText}

-- More good signatures leave a sound object sound.
pub sound_more : (d : Digests) (v v' : Verdicts) (o : Object) → Within v v' → Sound d v o → Sound d v' o
sound_more d v v' o more s = record { digest = s.digest; time = s.time; message = s.message; message_is = s.message_is; signature = more o.cert.tbs.key o.signer.has_null s.message o.signer.signature s.signature }

-- Algorithms: whichever of two identifiers stands there, they tell NULL in one way.
record AnyContent (content : List ℕ) (x : Unit {0}) : Type 0 where
  any : Unit {0}

any_content_one : OneOctets AnyContent
any_content_one = record { one = λ content x y p q. refl }

algorithms_same : (a b : List ℕ) (t : Tree) (x y : Bool) → id.IsAlgorithm a t x → id.IsAlgorithm b t y → x ≡ y
algorithms_same a b t x y p q = p.means ∙ ap id.has_null (either.one t p.x q.x (weaker a p.x p.is) (weaker b q.x q.is)) ∙ sym q.means
  where
    either : One (Inside sequence_tag (Then (OctetsOf oid_tag AnyContent) OptNull))
    either = inside_one (then_one (octets_one any_content_one) opt_null_one)

    weaker : (octets : List ℕ) (f : id.AlgorithmFields) → Inside sequence_tag (id.AreAlgorithm octets) t f → Inside sequence_tag (Then (OctetsOf oid_tag AnyContent) OptNull) t f
    weaker octets f r = record {
      values = r.values;
      whole = r.whole;
      is = record { first = r.is.first; others = r.is.others; whole = r.is.whole; is = record { content = r.is.is.content; whole = r.is.is.whole; is = record { any = tt } }; rest = r.is.rest };
    }

digest_algorithm_one : One id.IsDigestAlgorithm
digest_algorithm_one = as_one (record { one = λ t x y p q. algorithms_same id.sha256 id.sha256 t x y p q })

signature_algorithm_one : One id.IsSignatureAlgorithm
signature_algorithm_one = record {
  one = λ t x y p q. elim p.cases [
    | inl l ↦ elim q.cases [
      | inl m ↦ algorithms_same _ _ t x y l m
      | inr m ↦ algorithms_same _ _ t x y l m
    ]
    | inr l ↦ elim q.cases [
      | inl m ↦ algorithms_same _ _ t x y l m
      | inr m ↦ algorithms_same _ _ t x y l m
    ]
  ];
}

-- Attributes.

attribute_one : One IsAttribute
attribute_one = as_one (inside_one (then_one (octets_one oid_one) (then_one (inside_one (then_one itself_one end_one)) end_one)))

once_one : {A : Type 0} {Q : Tree → A → Type 0} → One Q → (all : List Attribute) (x y : Option A) → IsOnce Q all x → IsOnce Q all y → x ≡ y
once_one o [] None None p q = refl
once_one o [] None (Some y) p q = absurd q
once_one o [] (Some x) y p q = absurd p
once_one o (a ∷ []) None y p q = absurd p
once_one o (a ∷ []) (Some x) None p q = absurd q
once_one o (a ∷ []) (Some x) (Some y) p q = ap (λ z. Some z) (o.one a.value x y p q)
once_one o (a ∷ b ∷ all) x y p q = absurd p

attributes_one : {m : Mode} → OneAll (AreAttributes m)
attributes_one {m} = gathers_one attribute_one same
  where
    same : (all : List Attribute) (x y : AttributesValue) → AreSigned m all x → AreSigned m all y → x ≡ y
    same all x y p q =
        let kind : x.content_type ≡ y.content_type = same_some (once_one (octets_one oid_one) (those_of id.content_type all) (Some x.content_type) (Some y.content_type) p.content_type q.content_type) in
        let digest : x.digest ≡ y.digest = same_some (once_one (string_one m octet_string_tag) (those_of id.message_digest all) (Some x.digest) (Some y.digest) p.digest q.digest) in
        let time : x.signing_time ≡ y.signing_time = once_one time_one (those_of id.signing_time all) x.signing_time y.signing_time p.signing_time q.signing_time in
        let binary : x.binary_signing_time ≡ y.binary_signing_time = once_one (octets_one unsigned_one) (those_of id.binary_signing_time all) x.binary_signing_time y.binary_signing_time p.binary_signing_time q.binary_signing_time in
        λ i. record { content_type = kind i; digest = digest i; signing_time = time i; binary_signing_time = binary i }

-- Signers, signed data, objects.

signer_one : {m : Mode} → OneFront (SpellsSigner m)
signer_one {m} =
    wraps_one
    (joins_one (spells_one (octets_one unit_one))
    (joins_one (spells_one (key_identifier_one m (context 0)))
    (joins_one (spells_one digest_algorithm_one)
    (joins_one (wraps_one (octets_too_before (order_one attributes_one)))
    (joins_one (spells_one signature_algorithm_one)
    (joins_one (spells_one (string_one m octet_string_tag))
    none_one))))))

signed_data_one : {m : Mode} → OneFront (SpellsSignedData m)
signed_data_one {m} =
    wraps_one
    (joins_one (spells_one (octets_one unit_one))
    (joins_one (spells_one (inside_one (then_one digest_algorithm_one end_one)))
    (joins_one (spells_one (inside_one (then_one (octets_one oid_one) (then_one (inside_one (then_one (string_one m octet_string_tag) end_one)) end_one))))
    (joins_one (wraps_one (joins_one spelled_cert_one none_one))
    (joins_one (wraps_one (joins_one signer_one none_one))
    none_one)))))

content_info_one : {m : Mode} → OneFront (SpellsContentInfo m)
content_info_one = wraps_one (joins_one (spells_one (octets_one unit_one)) (joins_one (wraps_one (joins_one signed_data_one none_one)) none_one))

pub spelled_object_one : {m : Mode} → OneFront (SpellsObject m)
spelled_object_one {m} = record { one = at }
  where
    at : (a b u v : List ℕ) (x y : Object) → SpellsObject m a x → SpellsObject m b y → a ++ u ≡ b ++ v → (a ≡ b) × (x ≡ y)
    at a b u v x y p q e =
        let f = content_info_one.one a b u v p.fields q.fields p.is q.is e in
        (f.0, p.says.fields ∙ ap (λ (z : ObjectFields). object_of z.1.0.0) f.1 ∙ sym q.says.fields)

-- Octets are one signed object at most.
pub one_object : (strict : Bool) (octets : List ℕ) (o o' : Object) → ObjectText strict octets o → ObjectText strict octets o' → o ≡ o'
one_object strict = in_front_one spelled_object_one

pub reads_as_one : {A : Type 0} {kind : List ℕ} {Q : Tree → A → Type 0} → One Q → (strict : Bool) (octets : List ℕ) (o o' : Object) (x x' : A) → ReadsAs kind Q strict octets o x → ReadsAs kind Q strict octets o' x' → (o ≡ o') × (x ≡ x')
reads_as_one {Q = Q} one strict octets o o' x x' p q =
    let e = one_object strict octets o o' p.object q.object in
    (e, reads_one one o'.content x x' (subst (λ (z : Object). ReadsFront Q z.content x) e p.content_is) q.content_is)

-- What stands behind it changes nothing.
pub more_behind : {A : Type 0} {P : List ℕ → A → Type 0} {octets : List ℕ} {x : A} (behind : List ℕ) → InFront P octets x → InFront P (octets ++ behind) x
more_behind behind p = record {
  text = p.text;
  rest = p.rest ++ behind;
  whole = ap (λ (v : List ℕ). v ++ behind) p.whole ∙ append_assoc p.text p.rest behind;
  is = p.is;
}

pub reads_as_behind : {A : Type 0} {kind : List ℕ} {Q : Tree → A → Type 0} (strict : Bool) (octets behind : List ℕ) (o : Object) (x : A) → ReadsAs kind Q strict octets o x → ReadsAs kind Q strict (octets ++ behind) o x
reads_as_behind strict octets behind o x p = record { object = more_behind behind p.object; type_is = p.type_is; content_is = p.content_is }

-- Contents.

version_one : {n : ℕ} → One (IsVersion n)
version_one = inside_one (then_one (octets_one unit_one) end_one)

moment_one : OneOctets IsMoment
moment_one = record { one = λ content x y p q. one_moment content x y p q }

file_one : One IsFile
file_one = as_one (inside_one (then_one (such_one (such_one (string_one Der ia5_string_tag))) (then_one (such_one (octets_one bit_string_one)) end_one)))

manifest_one : One IsManifest
manifest_one = as_one (inside_one (opt_one (inside_tagged _ _) version_one (then_one serial_one (then_one (octets_one moment_one) (then_one (octets_one moment_one) (then_one (octets_one unit_one) (then_one (inside_one (many_one file_one)) end_one)))))))

roa_address_one : (family : AddressFamily) → One (IsRoaAddress family)
roa_address_one family = such_one (as_one (inside_one (then_one (address_one family) (opt_one (octets_tagged _ _) (octets_one unsigned_one) end_one))))

roa_family_one : One IsRoaFamily
roa_family_one = inside_one (record { one = at })
  where
    fields : (family : AddressFamily) → OneAll (Then (IsFamily Der) (Then (Inside sequence_tag (Many (IsRoaAddress family))) End))
    fields family = then_one family_one (then_one (inside_one (many_one (roa_address_one family))) end_one)

    at : (ts : Trees) (x y : FamilyAddresses) → AreFamilyFields ts x → AreFamilyFields ts y → x ≡ y
    at ts x y p q =
        let e = same_trees (sym p.are.whole ∙ q.are.whole) in
        let family : x.family ≡ y.family = family_one.one q.are.first x.family y.family (subst (λ (t : Tree). IsFamily Der t x.family) e.0 p.are.is) q.are.is in
        let moved = subst (λ (f : AddressFamily). Then (IsFamily Der) (Then (Inside sequence_tag (Many (IsRoaAddress f))) End) ts (f, (x.addresses, tt))) family p.are in
        let same = (fields y.family).one ts (y.family, (x.addresses, tt)) (y.family, (y.addresses, tt)) moved q.are in
        let addresses : x.addresses ≡ y.addresses = ap (λ (z : AddressFamily × (List RoaAddress × Unit {0})). z.1.0) same in
        λ i. record { family = family i; addresses = addresses i }

apart : {A : Type 0} {x : AddressFamily} → x ≡ Ipv4 → x ≡ Ipv6 → A
apart p q = let e : Ipv4 ≡ Ipv6 = sym p ∙ q in absurd cc

of_one : (x : FamilyAddresses) (o : Option FamilyAddresses) (v4 v6 w4 w6 : List RoaAddress) → AreOf x o v4 v6 → AreOf x o w4 w6 → (v4 ≡ w4) × (v6 ≡ w6)
of_one x None v4 v6 w4 w6 (inl p) (inl q) = (p.1 ∙ sym q.1, p.2 ∙ sym q.2)
of_one x None v4 v6 w4 w6 (inl p) (inr q) = apart p.0 q.0
of_one x None v4 v6 w4 w6 (inr p) (inl q) = apart q.0 p.0
of_one x None v4 v6 w4 w6 (inr p) (inr q) = (p.1 ∙ sym q.1, p.2 ∙ sym q.2)
of_one x (Some y) v4 v6 w4 w6 (inl p) (inl q) = (p.2 ∙ sym q.2, p.3 ∙ sym q.3)
of_one x (Some y) v4 v6 w4 w6 (inl p) (inr q) = apart p.0 q.0
of_one x (Some y) v4 v6 w4 w6 (inr p) (inl q) = apart q.0 p.0
of_one x (Some y) v4 v6 w4 w6 (inr p) (inr q) = (p.2 ∙ sym q.2, p.3 ∙ sym q.3)

families_one : OneAll AreRoaFamilies
families_one = record { one = at }
  where
    at : (ts : Trees) (x y : List RoaAddress × List RoaAddress) → AreRoaFamilies ts x → AreRoaFamilies ts y → x ≡ y
    at ts x y p q =
        let e = (then_one roa_family_one (opt_one (inside_tagged _ _) roa_family_one end_one)).one ts p.families q.families p.are q.are in
        let r = of_one q.families.0 q.families.1.0 x.0 x.1 y.0 y.1 (subst (λ (z : FamilyPair). AreOf z.0 z.1.0 x.0 x.1) e p.of) q.of in
        ap (λ (z : List RoaAddress). (z, x.1)) r.0 ∙ ap (λ (z : List RoaAddress). (y.0, z)) r.1

roa_one : One IsRoa
roa_one = as_one (inside_one (opt_one (inside_tagged _ _) version_one (then_one (octets_one unsigned_one) (then_one (inside_one families_one) end_one))))

aspa_one : One IsAspa
aspa_one = such_one (as_one (inside_one (then_one version_one (then_one (octets_one unsigned_one) (then_one (inside_one (many_one (octets_one unsigned_one))) end_one)))))

-- Octets are one object with such a content at most.
pub one_manifest : (strict : Bool) (octets : List ℕ) (o o' : Object) (m m' : Manifest) → ManifestText strict octets o m → ManifestText strict octets o' m' → (o ≡ o') × (m ≡ m')
one_manifest = reads_as_one manifest_one

pub one_roa : (strict : Bool) (octets : List ℕ) (o o' : Object) (r r' : Roa) → RoaText strict octets o r → RoaText strict octets o' r' → (o ≡ o') × (r ≡ r')
one_roa = reads_as_one roa_one

pub one_aspa : (strict : Bool) (octets : List ℕ) (o o' : Object) (a a' : Aspa) → AspaText strict octets o a → AspaText strict octets o' a' → (o ≡ o') × (a ≡ a')
one_aspa = reads_as_one aspa_one
