-- Octets are one certificate at most, and one revocation list.
use Rattle.std.proofs.Common.{◌≡◌, inl, inr, ℕ, List, [], ◌∷◌, ◌++◌, Some, None, sym, ap, ◌∙◌, subst}
use Rattle.certs_extension.specs.bcder_tree.declared.mode.Mode.{Mode}
use Rattle.certs_extension.specs.bcder_tree.declared.mode.Mode.TheVariants.{Der}
use Rattle.certs_extension.specs.bcder_content.Grammar.{One, OneAll}
use Rattle.certs_extension.specs.bcder_content.Kept.{CapturedValue}
use Rattle.certs_extension.proofs.of_bcder_content.Unique.{octets_one, inside_one, inside_tagged, then_one, opt_one, many_one, end_one, as_one}
use Rattle.certs_extension.proofs.of_bcder_octets.BitReadings.{bit_string_one}
use Rattle.certs_extension.specs.resources_chain.declared.claims.Overclaim.{Overclaim}
use Rattle.certs_extension.specs.resources_chain.Claims.{Choice}
use Rattle.certs_extension.specs.resources_as.Identifiers.{ip_octets, as_octets}
use Rattle.certs_extension.specs.resources_ip.Encodings.{IsIpAddrBlocks, FamilyChoices}
use Rattle.certs_extension.specs.resources_ip.Meanings.{one_of_families}
use Rattle.certs_extension.specs.resources_as.Meanings.{resources_one}
use Rattle.certs_extension.specs.certs_basics.Identifiers as id
use Rattle.certs_extension.specs.bcder_content.Words.{Gathers}
use Rattle.certs_extension.specs.certs_basics.Names.{SpellsName}
use Rattle.certs_extension.specs.Extensions.{Extension, IsExtension, Must, MustNot, May, of_kind}
use Rattle.certs_extension.specs.CertAccess.{AccessValue}
use Rattle.certs_extension.specs.Cert.{TbsValue, CertValue}
use Rattle.certs_extension.specs.CertText.{AreIpResources, AreAsResources, IsAccess, Fields, SaysTbs, SpellsFields, SpellsTbs, SpellsSigned, SpellsCert, CertText, as_cert}
use Rattle.certs_extension.specs.CrlText.{AreRevoked, ListFields, TbsListValue, SaysList, SpellsListFields, SpellsTbsList, CrlValue, SpellsCrl, CrlText, as_crl}
use Rattle.certs_extension.proofs.of_bcder_content.Fronts.{OneFront, spells_one, order_one, none_one, octets_too, joins_one, wraps_one, in_front_one}
use Rattle.certs_extension.proofs.of_bcder_content.Simple.{unit_one}
use Rattle.certs_extension.proofs.of_certs_basics.Values.{gathers_one, serial_one, algorithm_one, name_one, key_one}
use Rattle.certs_extension.proofs.Values.{time_one, validity_one, extension_one, reads_one, optional_one, same_some, basic_one, subject_key_one, authority_key_one, usage_one, purposes_one, crl_distribution_one, authority_access_one, policies_one, subject_access_one}

-- Names, by their octets.
pub spelled_name_one : {m : Mode} → OneFront (SpellsName m)
spelled_name_one {m} = record { one = at }
  where
    at : (a b u v : List ℕ) (x y : CapturedValue) → SpellsName m a x → SpellsName m b y → a ++ u ≡ b ++ v → (a ≡ b) × (x ≡ y)
    at a b u v x y p q e =
        let f : a ≡ b = ((spells_one name_one).one a b u v p.all q.all p.is q.is e).0 in
        (f, p.same ∙ ap (λ (z : List ℕ). record { mode = m; octets = z }) f ∙ sym q.same)

-- Resources.
ip_one : (es : List Extension) (v4 w4 v6 w6 : Choice) → AreIpResources es v4 v6 → AreIpResources es w4 w6 → (v4 ≡ w4) × (v6 ≡ w6)
ip_one [] v4 w4 v6 w6 p q = (p.0 ∙ sym q.0, p.1 ∙ sym q.1)
ip_one (e ∷ []) v4 w4 v6 w6 p q =
    let families : One (IsIpAddrBlocks Der) = record { one = one_of_families Der } in
    let same = reads_one families e.octets (record { v4 = v4; v6 = v6 }) (record { v4 = w4; v6 = w6 }) p q in
    (ap (λ (x : FamilyChoices). x.v4) same, ap (λ (x : FamilyChoices). x.v6) same)
ip_one (e ∷ f ∷ es) v4 w4 v6 w6 p q = absurd p

asn_one : (es : List Extension) (x y : Choice) → AreAsResources es x → AreAsResources es y → x ≡ y
asn_one [] x y p q = p ∙ sym q
asn_one (e ∷ []) x y p q = reads_one resources_one e.octets x y p q
asn_one (e ∷ f ∷ es) x y p q = absurd p

access_one : (all : List Extension) (x y : AccessValue) → IsAccess all x → IsAccess all y → x ≡ y
access_one all x y (inl p) (inl q) = p.1 ∙ sym q.1
access_one all x y (inl p) (inr q) = let e : None ≡ Some y = optional_one MustNot subject_access_one (of_kind id.subject_info_access all) None (Some y) p.0 q in absurd cc
access_one all x y (inr p) (inl q) = let e : None ≡ Some x = optional_one MustNot subject_access_one (of_kind id.subject_info_access all) None (Some x) q.0 p in absurd cc
access_one all x y (inr p) (inr q) = same_some (optional_one MustNot subject_access_one (of_kind id.subject_info_access all) (Some x) (Some y) p q)

-- What is signed of a certificate.
tbs_same : (f g : Fields) (c d : TbsValue) → f ≡ g → SaysTbs f c → SaysTbs g d → c ≡ d
tbs_same f g c d e p0 q =
    let p = subst (λ (z : Fields). SaysTbs z c) e p0 in
    let all = g.1.1.1.1.1.1.1.0.0 in
    let x = p.extensions in
    let y = q.extensions in
    let serial : c.serial ≡ d.serial = p.serial ∙ sym q.serial in
    let has_null : c.has_null ≡ d.has_null = p.has_null ∙ sym q.has_null in
    let issuer : c.issuer ≡ d.issuer = p.issuer ∙ sym q.issuer in
    let not_before : c.not_before ≡ d.not_before = p.not_before ∙ sym q.not_before in
    let not_after : c.not_after ≡ d.not_after = p.not_after ∙ sym q.not_after in
    let subject : c.subject ≡ d.subject = p.subject ∙ sym q.subject in
    let key : c.key ≡ d.key = p.key ∙ sym q.key in
    let basic_ca : c.basic_ca ≡ d.basic_ca = optional_one Must basic_one (of_kind id.basic_constraints all) c.basic_ca d.basic_ca x.basic_constraints y.basic_constraints in
    let subject_key : c.subject_key_identifier ≡ d.subject_key_identifier = same_some (optional_one MustNot subject_key_one (of_kind id.subject_key_identifier all) (Some c.subject_key_identifier) (Some d.subject_key_identifier) x.subject_key_identifier y.subject_key_identifier) in
    let authority_key : c.authority_key_identifier ≡ d.authority_key_identifier = optional_one MustNot authority_key_one (of_kind id.authority_key_identifier all) c.authority_key_identifier d.authority_key_identifier x.authority_key_identifier y.authority_key_identifier in
    let usage : c.key_usage ≡ d.key_usage = same_some (optional_one Must usage_one (of_kind id.key_usage all) (Some c.key_usage) (Some d.key_usage) x.key_usage y.key_usage) in
    let purposes : c.extended_key_usage ≡ d.extended_key_usage = optional_one MustNot purposes_one (of_kind id.extended_key_usage all) c.extended_key_usage d.extended_key_usage x.extended_key_usage y.extended_key_usage in
    let crl : c.crl_uri ≡ d.crl_uri = optional_one MustNot crl_distribution_one (of_kind id.crl_distribution_points all) c.crl_uri d.crl_uri x.crl_distribution y.crl_distribution in
    let ca_issuer : c.ca_issuer ≡ d.ca_issuer = optional_one MustNot authority_access_one (of_kind id.authority_info_access all) c.ca_issuer d.ca_issuer x.authority_access y.authority_access in
    let access : c.access ≡ d.access = access_one all c.access d.access x.subject_access y.subject_access in
    let overclaim : c.overclaim ≡ d.overclaim = same_some (optional_one Must policies_one (of_kind id.certificate_policies all) (Some c.overclaim) (Some d.overclaim) x.policies y.policies) in
    let ip = ip_one (of_kind (ip_octets d.overclaim) all) c.v4 d.v4 c.v6 d.v6 (subst (λ (o : Overclaim). AreIpResources (of_kind (ip_octets o) all) c.v4 c.v6) overclaim x.resources.ip) y.resources.ip in
    let v4 : c.v4 ≡ d.v4 = ip.0 in
    let v6 : c.v6 ≡ d.v6 = ip.1 in
    let asn : c.asn ≡ d.asn = asn_one (of_kind (as_octets d.overclaim) all) c.asn d.asn (subst (λ (o : Overclaim). AreAsResources (of_kind (as_octets o) all) c.asn) overclaim x.resources.asn) y.resources.asn in
    λ i. record {
      serial = serial i;
      has_null = has_null i;
      issuer = issuer i;
      not_before = not_before i;
      not_after = not_after i;
      subject = subject i;
      key = key i;
      basic_ca = basic_ca i;
      subject_key_identifier = subject_key i;
      authority_key_identifier = authority_key i;
      key_usage = usage i;
      extended_key_usage = purposes i;
      crl_uri = crl i;
      ca_issuer = ca_issuer i;
      access = access i;
      overclaim = overclaim i;
      v4 = v4 i;
      v6 = v6 i;
      asn = asn i;
    }

pub extensions_one : {m : Mode} → OneAll (Gathers (IsExtension m) (λ all same. all ≡ same))
extensions_one = gathers_one extension_one (λ xs y z p q. sym p ∙ q)

fields_one : {m : Mode} → OneFront (SpellsFields m)
fields_one =
    wraps_one
    (joins_one (spells_one (inside_one (then_one (octets_one unit_one) end_one)))
    (joins_one (spells_one serial_one)
    (joins_one (spells_one algorithm_one)
    (joins_one spelled_name_one
    (joins_one (spells_one validity_one)
    (joins_one spelled_name_one
    (joins_one (spells_one key_one)
    (joins_one (spells_one (inside_one (then_one (inside_one extensions_one) end_one)))
    none_one))))))))

pub tbs_one : {m : Mode} → OneFront (SpellsTbs m)
tbs_one {m} = record { one = at }
  where
    at : (a b u v : List ℕ) (x y : TbsValue) → SpellsTbs m a x → SpellsTbs m b y → a ++ u ≡ b ++ v → (a ≡ b) × (x ≡ y)
    at a b u v x y p q e =
        let f = fields_one.one a b u v p.fields q.fields p.is q.is e in
        (f.0, tbs_same p.fields q.fields x y f.1 p.says q.says)

pub signed_one : {A : Type 0} {m : Mode} {P : List ℕ → A → Type 0} → OneFront P → OneFront (SpellsSigned m P)
signed_one o = wraps_one (joins_one (octets_too o) (joins_one (spells_one algorithm_one) (joins_one (spells_one (octets_one bit_string_one)) none_one)))

pub spelled_cert_one : {m : Mode} → OneFront (SpellsCert m)
spelled_cert_one {m} = record { one = at }
  where
    at : (a b u v : List ℕ) (x y : CertValue) → SpellsCert m a x → SpellsCert m b y → a ++ u ≡ b ++ v → (a ≡ b) × (x ≡ y)
    at a b u v x y p q e =
        let f = (signed_one tbs_one).one a b u v p.fields q.fields p.is q.is e in
        (f.0, p.says ∙ ap (as_cert m) f.1 ∙ sym q.says)

-- Octets are one certificate at most.
pub one_cert : (octets : List ℕ) (c c' : CertValue) → CertText octets c → CertText octets c' → c ≡ c'
one_cert = in_front_one spelled_cert_one

-- Revocation lists.

revoked_one : One AreRevoked
revoked_one = inside_one (many_one (as_one (inside_one (then_one serial_one (then_one time_one end_one)))))

list_same : (f g : ListFields) (c d : TbsListValue) → f ≡ g → SaysList f c → SaysList g d → c ≡ d
list_same f g c d e p0 q =
    let p = subst (λ (z : ListFields). SaysList z c) e p0 in
    let all = g.1.1.1.1.1.1.0.0 in
    let x = p.extensions in
    let y = q.extensions in
    let has_null : c.has_null ≡ d.has_null = p.has_null ∙ sym q.has_null in
    let issuer : c.issuer ≡ d.issuer = p.issuer ∙ sym q.issuer in
    let this_update : c.this_update ≡ d.this_update = p.this_update ∙ sym q.this_update in
    let next_update : c.next_update ≡ d.next_update = p.next_update ∙ sym q.next_update in
    let revoked : c.revoked ≡ d.revoked = p.revoked ∙ sym q.revoked in
    let authority_key : c.authority_key_identifier ≡ d.authority_key_identifier = same_some (optional_one May authority_key_one (of_kind id.authority_key_identifier all) (Some c.authority_key_identifier) (Some d.authority_key_identifier) x.authority_key_identifier y.authority_key_identifier) in
    let number : c.number ≡ d.number = same_some (optional_one May serial_one (of_kind id.crl_number all) (Some c.number) (Some d.number) x.number y.number) in
    λ i. record {
      has_null = has_null i;
      issuer = issuer i;
      this_update = this_update i;
      next_update = next_update i;
      revoked = revoked i;
      authority_key_identifier = authority_key i;
      number = number i;
    }

list_fields_one : {m : Mode} → OneFront (SpellsListFields m)
list_fields_one =
    wraps_one
    (joins_one (spells_one (octets_one unit_one))
    (joins_one (spells_one algorithm_one)
    (joins_one spelled_name_one
    (order_one
    (then_one time_one
    (then_one time_one
    (opt_one (inside_tagged _ _) revoked_one
    (then_one (inside_one (then_one (inside_one extensions_one) end_one))
    end_one))))))))

pub tbs_list_one : {m : Mode} → OneFront (SpellsTbsList m)
tbs_list_one {m} = record { one = at }
  where
    at : (a b u v : List ℕ) (x y : TbsListValue) → SpellsTbsList m a x → SpellsTbsList m b y → a ++ u ≡ b ++ v → (a ≡ b) × (x ≡ y)
    at a b u v x y p q e =
        let f = list_fields_one.one a b u v p.fields q.fields p.is q.is e in
        (f.0, list_same p.fields q.fields x y f.1 p.says q.says)

pub spelled_crl_one : {m : Mode} → OneFront (SpellsCrl m)
spelled_crl_one {m} = record { one = at }
  where
    at : (a b u v : List ℕ) (x y : CrlValue) → SpellsCrl m a x → SpellsCrl m b y → a ++ u ≡ b ++ v → (a ≡ b) × (x ≡ y)
    at a b u v x y p q e =
        let f = (signed_one tbs_list_one).one a b u v p.fields q.fields p.is q.is e in
        (f.0, p.says ∙ ap (as_crl m) f.1 ∙ sym q.says)

-- Octets are one revocation list at most.
pub one_crl : (octets : List ℕ) (c c' : CrlValue) → CrlText octets c → CrlText octets c' → c ≡ c'
one_crl = in_front_one spelled_crl_one
