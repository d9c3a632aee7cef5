-- The slots of a list of extensions, and what they mean as a whole.
use Rattle.std.proofs.Common.{◌≡◌, ◌≢◌, ◌⊎◌, inl, inr, ℕ, List, [], ◌∷◌, Option, Some, None, refl, sym, ap, ◌∙◌, subst}
use Rattle.certs_extension.specs.bcder_tree.declared.mode.Mode.TheVariants.{Der}
use Rattle.certs_extension.specs.bcder_tree.Tree.{Tree}
use Rattle.certs_extension.specs.bcder_content.Grammar.{One}
use Rattle.certs_extension.specs.bcder_content.Texts.{ReadsFront}
use Rattle.certs_extension.specs.certs_basics.Identifiers as id
use Rattle.certs_extension.specs.resources_as.Encodings.{IsAsResources}
use Rattle.certs_extension.specs.resources_as.Meanings.{resources_one}
use Rattle.certs_extension.specs.resources_chain.Claims.{Choice}
use Rattle.certs_extension.specs.resources_chain.declared.choice.ResourcesChoice.TheVariants.{Missing}
use Rattle.certs_extension.specs.resources_chain.declared.claims.Overclaim.{Overclaim}
use Rattle.certs_extension.specs.resources_chain.declared.claims.Overclaim.TheVariants.{Refuse, Trim}
use Rattle.certs_extension.specs.resources_ip.Encodings.{FamilyChoices}
use Rattle.certs_extension.specs.resources_ip.Meanings.{one_of_families}
use Rattle.certs_extension.specs.resources_ip.Reading.{family_choices}
use Rattle.certs_extension.specs.resources_ip.declared.resources.IpFamilies.{IpFamilies}
use Rattle.certs_extension.specs.resources_as.Identifiers.{as_octets, ip_octets}
use Rattle.certs_extension.specs.CertAccess.{AccessValue, IsSubjectAccess}
use Rattle.certs_extension.specs.Cert.{TbsValue}
use Rattle.certs_extension.specs.CertText.{AreAsResources, AreIpResources, HasExtensions, IsAccess, other}
use Rattle.certs_extension.specs.Extensions.{Extension, IsAuthorityAccess, IsAuthorityKeyIdentifier, IsBasicConstraints, IsCrlDistribution, IsExtendedKeyUsage, IsKeyUsage, IsOptional, IsPolicies, IsSubjectKeyIdentifier, May, Must, MustNot, of_kind}
use Rattle.certs_extension.proofs.Values.{authority_access_one, authority_key_one, basic_one, crl_distribution_one, optional_one, policies_one, purposes_one, same_some, subject_access_one, subject_key_one, usage_one}
use Rattle.certs_extension.specs.declared.claims.slots.Slots.{Slots}
use Rattle.certs_extension.specs.Finishing.{Finishes, IsUnder, access_of, claims_of, no_families}
use Rattle.certs_extension.specs.Slots.{AreFamilies, AreSlots, IsVersioned}
use Rattle.certs_extension.proofs.SlotLaws.{one_or_other}

families_one : One (AreFamilies Der)
families_one = record { one = λ t x y p q. ap (λ (z : FamilyChoices). let w : IpFamilies = record { v4 = z.v4; v6 = z.v6 } in w) (one_of_families Der t (family_choices x) (family_choices y) p q) }

module _ {A : Type 0} (octets : Overclaim → List ℕ) (Q : Tree → A → Type 0) (all : List Extension) where
  -- Resources of one version are there.
  nothing_there : (v : Overclaim) (x : A) → of_kind (octets v) all ≡ [] → IsOptional May Q (of_kind (octets v) all) (Some x) → ⊥
  nothing_there v x none p = subst (λ (es : List Extension). IsOptional May Q es (Some x)) none p

  none_of : (v : Overclaim) → IsVersioned octets Q all None → of_kind (octets v) all ≡ []
  none_of Refuse p = p.0
  none_of Trim p = p.1

  versioned_one : One Q → (x y : Option (Overclaim × A)) → IsVersioned octets Q all x → IsVersioned octets Q all y → x ≡ y
  versioned_one one None None p q = refl
  versioned_one one None (Some y) p q = absurd (nothing_there y.0 y.1 (none_of y.0 p) q.1)
  versioned_one one (Some x) None p q = absurd (nothing_there x.0 x.1 (none_of x.0 q) p.1)
  versioned_one one (Some x) (Some y) p q = at (one_or_other x.0 y.0)
    where
      at : (y.0 ≡ x.0) ⊎ (y.0 ≡ other x.0) → Some x ≡ Some y
      at (inl same) =
          let e = same_some (optional_one May one (of_kind (octets x.0) all) (Some x.1) (Some y.1) p.1 (subst (λ (v : Overclaim). IsOptional May Q (of_kind (octets v) all) (Some y.1)) same q.1)) in
          ap (λ (z : A). Some (x.0, z)) e ∙ ap (λ (v : Overclaim). Some (v, y.1)) (sym same)
      at (inr differs) = absurd (nothing_there y.0 y.1 (ap (λ (v : Overclaim). of_kind (octets v) all) differs ∙ p.0) q.1)

  -- No extension, and resources are missing; or one that says them.
  abbrev Says : A → List Extension → A → Type 0
  Says missing [] x = x ≡ missing
  Says missing (e ∷ []) x = ReadsFront Q e.octets x
  Says missing (e ∷ f ∷ es) x = ⊥

  -- The slot of resources under that policy.
  record SlotOf (policy : Overclaim) (missing x : A) : Type 0 where
    slot : Option (Overclaim × A)
    versioned : IsVersioned octets Q all slot
    under : IsUnder policy missing slot x
    there : of_kind (octets policy) all ≢ [] → slot ≢ None

  neither : (v : Overclaim) → of_kind (octets v) all ≡ [] → of_kind (octets (other v)) all ≡ [] → IsVersioned octets Q all None
  neither Refuse p q = (p, q)
  neither Trim p q = (q, p)

  slot_of : (policy : Overclaim) (missing x : A) → Says missing (of_kind (octets policy) all) x → of_kind (octets (other policy)) all ≡ [] → SlotOf policy missing x
  slot_of policy missing x says none = at (of_kind (octets policy) all) refl says
    where
      at : (es : List Extension) → of_kind (octets policy) all ≡ es → Says missing es x → SlotOf policy missing x
      at [] e s = record { slot = None; versioned = neither policy e none; under = s; there = λ some. absurd (some e) }
      at (f ∷ []) e s = record { slot = Some (policy, x); versioned = (none, subst (λ (es : List Extension). IsOptional May Q es (Some x)) (sym e) (tt, s)); under = (refl, refl); there = λ some k. cc }
      at (f ∷ g ∷ es) e s = absurd s

  says_of : (policy : Overclaim) (missing x : A) (slot : Option (Overclaim × A)) → IsVersioned octets Q all slot → IsUnder policy missing slot x → Says missing (of_kind (octets policy) all) x × (of_kind (octets (other policy)) all ≡ []) × (slot ≢ None → of_kind (octets policy) all ≢ [])
  says_of policy missing x None p u = (
    subst (λ (es : List Extension). Says missing es x) (sym (none_of policy p)) u,
    none_of (other policy) p,
    λ some. absurd (some refl),
  )
  says_of policy missing x (Some y) p u =
      let there = subst (λ (v : Overclaim). IsOptional May Q (of_kind (octets v) all) (Some y.1)) u.0 p.1 in (
        at (of_kind (octets policy) all) (subst (λ (z : A). IsOptional May Q (of_kind (octets policy) all) (Some z)) (sym u.1) there),
        subst (λ (v : Overclaim). of_kind (octets (other v)) all ≡ []) u.0 p.0,
        λ some none. nothing_there policy y.1 none there,
      )
    where
      at : (es : List Extension) → IsOptional May Q es (Some x) → Says missing es x
      at [] z = absurd z
      at (e ∷ []) z = z.1
      at (e ∷ f ∷ es) z = absurd z

ip_says : (all es : List Extension) (v4 v6 : Choice) → AreIpResources es v4 v6 → Says ip_octets (AreFamilies Der) all no_families es (record { v4 = v4; v6 = v6 })
ip_says all [] v4 v6 p = λ i. record { v4 = p.0 i; v6 = p.1 i }
ip_says all (e ∷ []) v4 v6 p = record { text = p.text; rest = p.rest; whole = p.whole; is = record { tree = p.is.tree; is = p.is.is; spelled = p.is.spelled } }
ip_says all (e ∷ f ∷ es) v4 v6 p = p

says_ip : (all es : List Extension) (v4 v6 : Choice) → Says ip_octets (AreFamilies Der) all no_families es (record { v4 = v4; v6 = v6 }) → AreIpResources es v4 v6
says_ip all [] v4 v6 p = (ap (λ (z : IpFamilies). z.v4) p, ap (λ (z : IpFamilies). z.v6) p)
says_ip all (e ∷ []) v4 v6 p = record { text = p.text; rest = p.rest; whole = p.whole; is = record { tree = p.is.tree; is = p.is.is; spelled = p.is.spelled } }
says_ip all (e ∷ f ∷ es) v4 v6 p = p

asn_says : (all es : List Extension) (x : Choice) → AreAsResources es x → Says as_octets IsAsResources all Missing es x
asn_says all [] x p = p
asn_says all (e ∷ []) x p = p
asn_says all (e ∷ f ∷ es) x p = p

says_asn : (all es : List Extension) (x : Choice) → Says as_octets IsAsResources all Missing es x → AreAsResources es x
says_asn all [] x p = p
says_asn all (e ∷ []) x p = p
says_asn all (e ∷ f ∷ es) x p = p

-- A list has slots in one way.
pub slots_one : (all : List Extension) (s t : Slots) → AreSlots all s → AreSlots all t → s ≡ t
slots_one all s t p q =
    let basic_ca = optional_one Must basic_one (of_kind id.basic_constraints all) s.basic_ca t.basic_ca p.basic_ca q.basic_ca in
    let subject = optional_one MustNot subject_key_one (of_kind id.subject_key_identifier all) s.subject_key_identifier t.subject_key_identifier p.subject_key_identifier q.subject_key_identifier in
    let authority = optional_one MustNot authority_key_one (of_kind id.authority_key_identifier all) s.authority_key_identifier t.authority_key_identifier p.authority_key_identifier q.authority_key_identifier in
    let usage = optional_one Must usage_one (of_kind id.key_usage all) s.key_usage t.key_usage p.key_usage q.key_usage in
    let purposes = optional_one MustNot purposes_one (of_kind id.extended_key_usage all) s.extended_key_usage t.extended_key_usage p.extended_key_usage q.extended_key_usage in
    let crl = optional_one MustNot crl_distribution_one (of_kind id.crl_distribution_points all) s.crl_uri t.crl_uri p.crl_uri q.crl_uri in
    let issuer = optional_one MustNot authority_access_one (of_kind id.authority_info_access all) s.ca_issuer t.ca_issuer p.ca_issuer q.ca_issuer in
    let access = optional_one MustNot subject_access_one (of_kind id.subject_info_access all) s.access t.access p.access q.access in
    let policy = optional_one Must policies_one (of_kind id.certificate_policies all) s.policy t.policy p.policy q.policy in
    let ip = versioned_one ip_octets (AreFamilies Der) all families_one s.ip t.ip p.ip q.ip in
    let asn = versioned_one as_octets IsAsResources all resources_one s.asn t.asn p.asn q.asn in
    λ i. record {
      basic_ca = basic_ca i;
      subject_key_identifier = subject i;
      authority_key_identifier = authority i;
      key_usage = usage i;
      extended_key_usage = purposes i;
      crl_uri = crl i;
      ca_issuer = issuer i;
      access = access i;
      policy = policy i;
      ip = ip i;
      asn = asn i;
    }

-- The slot of subject information access.
record AccessSlot (all : List Extension) (a : AccessValue) : Type 0 where
  slot : Option AccessValue
  is : IsOptional MustNot IsSubjectAccess (of_kind id.subject_info_access all) slot
  means : a ≡ access_of slot

access_slot : (all : List Extension) (a : AccessValue) → IsAccess all a → AccessSlot all a
access_slot all a (inl p) = record { slot = None; is = p.0; means = p.1 }
access_slot all a (inr p) = record { slot = Some a; is = p; means = refl }

slot_access : (all : List Extension) (a : AccessValue) (slot : Option AccessValue) → IsOptional MustNot IsSubjectAccess (of_kind id.subject_info_access all) slot → a ≡ access_of slot → IsAccess all a
slot_access all a None p e = inl (p, e)
slot_access all a (Some b) p e = inr (subst (λ (z : AccessValue). IsOptional MustNot IsSubjectAccess (of_kind id.subject_info_access all) (Some z)) (sym e) p)

-- The extensions of a certificate have slots.
pub slots_there : (all : List Extension) (c : TbsValue) → HasExtensions all c → (s : Slots) × AreSlots all s × Finishes s (claims_of c)
slots_there all c h =
    let r = h.resources in
    let ip = slot_of ip_octets (AreFamilies Der) all c.overclaim no_families (record { v4 = c.v4; v6 = c.v6 }) (ip_says all _ c.v4 c.v6 r.ip) r.no_other_ip in
    let asn = slot_of as_octets IsAsResources all c.overclaim Missing c.asn (asn_says all _ c.asn r.asn) r.no_other_asn in
    let access = access_slot all c.access h.subject_access in
    let s : Slots = record {
      basic_ca = c.basic_ca;
      subject_key_identifier = Some c.subject_key_identifier;
      authority_key_identifier = c.authority_key_identifier;
      key_usage = Some c.key_usage;
      extended_key_usage = c.extended_key_usage;
      crl_uri = c.crl_uri;
      ca_issuer = c.ca_issuer;
      access = access.slot;
      policy = Some c.overclaim;
      ip = ip.slot;
      asn = asn.slot;
    } in (
      s,
      record {
        skipped = h.skipped;
        basic_ca = h.basic_constraints;
        subject_key_identifier = h.subject_key_identifier;
        authority_key_identifier = h.authority_key_identifier;
        key_usage = h.key_usage;
        extended_key_usage = h.extended_key_usage;
        crl_uri = h.crl_distribution;
        ca_issuer = h.authority_access;
        access = access.is;
        policy = h.policies;
        ip = ip.versioned;
        asn = asn.versioned;
      },
      record {
        basic_ca = refl;
        subject_key_identifier = refl;
        authority_key_identifier = refl;
        key_usage = refl;
        extended_key_usage = refl;
        crl_uri = refl;
        ca_issuer = refl;
        access = access.means;
        overclaim = refl;
        ip = ip.under;
        asn = asn.under;
        some = elim r.some [
          | inl p ↦ inl (ip.there p)
          | inr p ↦ inr (asn.there p)
        ];
      },
    )

-- Slots that mean what a certificate claims are those of its extensions.
pub extensions_there : (all : List Extension) (c : TbsValue) (s : Slots) → AreSlots all s → Finishes s (claims_of c) → HasExtensions all c
extensions_there all c s p f =
    let ip = says_of ip_octets (AreFamilies Der) all c.overclaim no_families (record { v4 = c.v4; v6 = c.v6 }) s.ip p.ip f.ip in
    let asn = says_of as_octets IsAsResources all c.overclaim Missing c.asn s.asn p.asn f.asn in
    record {
      skipped = p.skipped;
      basic_constraints = subst (IsOptional Must IsBasicConstraints (of_kind id.basic_constraints all)) (sym f.basic_ca) p.basic_ca;
      subject_key_identifier = subst (IsOptional MustNot IsSubjectKeyIdentifier (of_kind id.subject_key_identifier all)) f.subject_key_identifier p.subject_key_identifier;
      authority_key_identifier = subst (IsOptional MustNot IsAuthorityKeyIdentifier (of_kind id.authority_key_identifier all)) (sym f.authority_key_identifier) p.authority_key_identifier;
      key_usage = subst (IsOptional Must IsKeyUsage (of_kind id.key_usage all)) f.key_usage p.key_usage;
      extended_key_usage = subst (IsOptional MustNot IsExtendedKeyUsage (of_kind id.extended_key_usage all)) (sym f.extended_key_usage) p.extended_key_usage;
      crl_distribution = subst (IsOptional MustNot IsCrlDistribution (of_kind id.crl_distribution_points all)) (sym f.crl_uri) p.crl_uri;
      authority_access = subst (IsOptional MustNot IsAuthorityAccess (of_kind id.authority_info_access all)) (sym f.ca_issuer) p.ca_issuer;
      subject_access = slot_access all c.access s.access p.access f.access;
      policies = subst (IsOptional Must IsPolicies (of_kind id.certificate_policies all)) f.overclaim p.policy;
      resources = record {
        ip = says_ip all _ c.v4 c.v6 ip.0;
        asn = says_asn all _ c.asn asn.0;
        no_other_ip = ip.1;
        no_other_asn = asn.1;
        some = elim f.some [
          | inl q ↦ inl (ip.2 q)
          | inr q ↦ inr (asn.2 q)
        ];
      };
    }
