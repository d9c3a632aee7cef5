-- All extensions that are written are those of the fields (RFC 6487 4.8).
use Rattle.std.proofs.Common.{◌≡◌, ◌≢◌, ◌⊎◌, inl, inr, ℕ, true, false, List, [], ◌∷◌, ◌++◌, Option, Some, refl, sym, ap, ◌∙◌, subst, arith}
use Rattle.certs.specs.bcder_tree.declared.mode.Mode.TheVariants.{Der}
use Rattle.certs.specs.bcder_tree.Tree.{Trees}
use Rattle.certs.specs.bcder_content.Grammar.{ManyCases}
use Rattle.certs.specs.bcder.Identifiers.{IsIdentifier}
use Rattle.certs.specs.certs_basics.Basics.{IsTwentyLong}
use Rattle.certs.specs.certs_basics.Identifiers as id
use Rattle.certs.specs.certs_extension.CertAccess.{IsSubjectAccess}
use Rattle.certs.specs.certs_extension.Cert.{TbsValue}
use Rattle.certs.specs.certs_extension.CertText.{AreAsResources, AreIpResources, HasExtensions}
use Rattle.certs.specs.certs_extension.Extensions.{Extension, IsAuthorityAccess, IsAuthorityKeyIdentifier, IsBasicConstraints, IsCrlDistribution, IsExtendedKeyUsage, IsExtension, IsKeyUsage, IsOptional, IsPolicies, IsSubjectKeyIdentifier, May, Must, MustNot, of_kind}
use Rattle.certs.specs.certs_extension.Purposes.{AreKeyPurposes}
use Rattle.certs.specs.resources_as.Encodings.{IsAsResources}
use Rattle.certs.specs.resources_chain.declared.claims.Overclaim.{Overclaim}
use Rattle.certs.specs.resources_chain.declared.claims.Overclaim.TheVariants.{Refuse, Trim}
use Rattle.certs.specs.resources_ip.Encodings.{IsIpAddrBlocks}
use Rattle.certs.specs.resources_ip.WrittenFamilies.{both, says_any}
use Rattle.certs.specs.resources_as.Identifiers.{as_octets, ip_octets}
use Rattle.certs.specs.Resources.{said_families, said_numbers}
use Rattle.certs.specs.Values as values
use Rattle.certs.specs.Values.{some_access}
use Rattle.certs_basics.specs.Uris.{IsRsync}
use Rattle.certs.specs.Laws.{IsLawful, IsReadable}
use Rattle.certs.specs.Tbs.{extensions, key_parts, place_parts, resource_parts, written_keys, written_places, written_resources}
use Rattle.certs.proofs.Access.{many_both, many_end}
use Rattle.certs.proofs.Items.{all_known, flat, flat_append, item, of_none, of_only, there}
use Rattle.certs.proofs.Listed as listed
use Rattle.certs.proofs.ValuesRead.{ResourcesAreRead, authority_key_read, constraints_read, crl_read, issuer_read, policies_read, purposes_read, subject_key_read, usage_read}

basic_identifies : IsIdentifier id.basic_constraints
basic_identifies = record { front = 85 ∷ 29 ∷ []; last = 19; whole = refl; ends = omega arith }

subject_identifies : IsIdentifier id.subject_key_identifier
subject_identifies = record { front = 85 ∷ 29 ∷ []; last = 14; whole = refl; ends = omega arith }

authority_identifies : IsIdentifier id.authority_key_identifier
authority_identifies = record { front = 85 ∷ 29 ∷ []; last = 35; whole = refl; ends = omega arith }

usage_identifies : IsIdentifier id.key_usage
usage_identifies = record { front = 85 ∷ 29 ∷ []; last = 15; whole = refl; ends = omega arith }

purposes_identifies : IsIdentifier id.extended_key_usage
purposes_identifies = record { front = 85 ∷ 29 ∷ []; last = 37; whole = refl; ends = omega arith }

crl_identifies : IsIdentifier id.crl_distribution_points
crl_identifies = record { front = 85 ∷ 29 ∷ []; last = 31; whole = refl; ends = omega arith }

issuer_identifies : IsIdentifier id.authority_info_access
issuer_identifies = record { front = 43 ∷ 6 ∷ 1 ∷ 5 ∷ 5 ∷ 7 ∷ 1 ∷ []; last = 1; whole = refl; ends = omega arith }

access_identifies : IsIdentifier id.subject_info_access
access_identifies = record { front = 43 ∷ 6 ∷ 1 ∷ 5 ∷ 5 ∷ 7 ∷ 1 ∷ []; last = 11; whole = refl; ends = omega arith }

policies_identifies : IsIdentifier id.certificate_policies
policies_identifies = record { front = 85 ∷ 29 ∷ []; last = 32; whole = refl; ends = omega arith }

ip_identifies : (v : Overclaim) → IsIdentifier (ip_octets v)
ip_identifies Refuse = record { front = 43 ∷ 6 ∷ 1 ∷ 5 ∷ 5 ∷ 7 ∷ 1 ∷ []; last = 7; whole = refl; ends = omega arith }
ip_identifies Trim = record { front = 43 ∷ 6 ∷ 1 ∷ 5 ∷ 5 ∷ 7 ∷ 1 ∷ []; last = 28; whole = refl; ends = omega arith }

asn_identifies : (v : Overclaim) → IsIdentifier (as_octets v)
asn_identifies Refuse = record { front = 43 ∷ 6 ∷ 1 ∷ 5 ∷ 5 ∷ 7 ∷ 1 ∷ []; last = 8; whole = refl; ends = omega arith }
asn_identifies Trim = record { front = 43 ∷ 6 ∷ 1 ∷ 5 ∷ 5 ∷ 7 ∷ 1 ∷ []; last = 29; whole = refl; ends = omega arith }

-- What is read of the extensions of keys, of places and of resources.
record ReadsKeys (c : TbsValue) (ts : Trees) : Type 0 where
  basic : Option (List ℕ)
  basic_says : IsOptional Must IsBasicConstraints (there id.basic_constraints true basic) c.basic_ca
  subject : Option (List ℕ)
  subject_says : IsOptional MustNot IsSubjectKeyIdentifier (there id.subject_key_identifier false subject) (Some c.subject_key_identifier)
  authority : Option (List ℕ)
  authority_says : IsOptional MustNot IsAuthorityKeyIdentifier (there id.authority_key_identifier false authority) c.authority_key_identifier
  usage : Option (List ℕ)
  usage_says : IsOptional Must IsKeyUsage (there id.key_usage true usage) (Some c.key_usage)
  purposes : Option (List ℕ)
  purposes_says : IsOptional MustNot IsExtendedKeyUsage (there id.extended_key_usage false purposes) c.extended_key_usage
  many : ManyCases (IsExtension Der) ts
      (there id.basic_constraints true basic ++ (there id.subject_key_identifier false subject ++ (there id.authority_key_identifier false authority
      ++ (there id.key_usage true usage ++ (there id.extended_key_usage false purposes ++ [])))))

keys_read : (c : TbsValue) → IsLawful c → (ts : Trees) → (written_keys (key_parts c)).trees Der ts → ReadsKeys c ts
keys_read c lawful ts p =
    let q = p.is_second in
    let r = q.is_second in
    let s = r.is_second in
    let basic = listed.one_read id.basic_constraints true Must values.basic_constraints c.basic_ca refl basic_identifies (λ x e. constraints_read x) p.first p.is_first in
    let subject = listed.one_read id.subject_key_identifier false MustNot values.subject_key (Some c.subject_key_identifier) refl subject_identifies
    (λ x e. subject_key_read x (subst (λ (z : List ℕ). IsTwentyLong z) (listed.same_some e) lawful.subject_key)) q.first q.is_first in
    let authority = listed.one_read id.authority_key_identifier false MustNot values.authority_key c.authority_key_identifier refl authority_identifies
    (λ x e. authority_key_read x (listed.some_is IsTwentyLong lawful.authority_key e)) r.first r.is_first in
    let usage = listed.one_read id.key_usage true Must values.key_usage (Some c.key_usage) refl usage_identifies (λ x e. usage_read x) s.first s.is_first in
    let purposes = listed.one_read id.extended_key_usage false MustNot values.purposes c.extended_key_usage refl purposes_identifies
    (λ x e. let are = listed.some_is AreKeyPurposes lawful.purposes e in purposes_read x are.some are.identify) s.second s.is_second in
    let of_purposes : List Extension = there id.extended_key_usage false purposes.found ++ [] in
    let of_usage : List Extension = there id.key_usage true usage.found ++ of_purposes in
    let of_authority : List Extension = there id.authority_key_identifier false authority.found ++ of_usage in
    let of_subject : List Extension = there id.subject_key_identifier false subject.found ++ of_authority in
    record {
      basic = basic.found;
      basic_says = basic.says;
      subject = subject.found;
      subject_says = subject.says;
      authority = authority.found;
      authority_says = authority.says;
      usage = usage.found;
      usage_says = usage.says;
      purposes = purposes.found;
      purposes_says = purposes.says;
      many =
          many_both (IsExtension Der) p (there id.basic_constraints true basic.found) of_subject basic.many
          (many_both (IsExtension Der) q (there id.subject_key_identifier false subject.found) of_authority subject.many
          (many_both (IsExtension Der) r (there id.authority_key_identifier false authority.found) of_usage authority.many
          (many_both (IsExtension Der) s (there id.key_usage true usage.found) of_purposes usage.many
          (many_end (IsExtension Der) s.second (there id.extended_key_usage false purposes.found) purposes.many))));
    }

record ReadsPlaces (c : TbsValue) (ts : Trees) : Type 0 where
  crl : Option (List ℕ)
  crl_says : IsOptional MustNot IsCrlDistribution (there id.crl_distribution_points false crl) c.crl_uri
  issuer : Option (List ℕ)
  issuer_says : IsOptional MustNot IsAuthorityAccess (there id.authority_info_access false issuer) c.ca_issuer
  access : Option (List ℕ)
  access_says : IsOptional MustNot IsSubjectAccess (there id.subject_info_access false access) (some_access c.access)
  many : ManyCases (IsExtension Der) ts
      (there id.crl_distribution_points false crl ++ (there id.authority_info_access false issuer ++ (there id.subject_info_access false access ++ [])))

places_read : (c : TbsValue) → IsLawful c → (ts : Trees) → (written_places (place_parts c)).trees Der ts → ReadsPlaces c ts
places_read c lawful ts p =
    let q = p.is_second in
    let crl = listed.one_read id.crl_distribution_points false MustNot values.crl c.crl_uri refl crl_identifies (λ x e. crl_read x (listed.some_is IsRsync lawful.crl_uri e)) p.first p.is_first in
    let issuer = listed.one_read id.authority_info_access false MustNot values.issuer_access c.ca_issuer refl issuer_identifies (λ x e. issuer_read x (listed.some_is IsRsync lawful.ca_issuer e)) q.first q.is_first in
    let access = listed.one_read id.subject_info_access false MustNot values.subject_access (some_access c.access) refl access_identifies (listed.access_reads c.access lawful.access) q.second q.is_second in
    let of_access : List Extension = there id.subject_info_access false access.found ++ [] in
    let of_issuer : List Extension = there id.authority_info_access false issuer.found ++ of_access in
    record {
      crl = crl.found;
      crl_says = crl.says;
      issuer = issuer.found;
      issuer_says = issuer.says;
      access = access.found;
      access_says = access.says;
      many =
          many_both (IsExtension Der) p (there id.crl_distribution_points false crl.found) of_issuer crl.many
          (many_both (IsExtension Der) q (there id.authority_info_access false issuer.found) of_access issuer.many
          (many_end (IsExtension Der) q.second (there id.subject_info_access false access.found) access.many));
    }

record ReadsResources (c : TbsValue) (ts : Trees) : Type 0 where
  policy : Option (List ℕ)
  policy_says : IsOptional Must IsPolicies (there id.certificate_policies true policy) (Some c.overclaim)
  ip : Option (List ℕ)
  ip_says : IsOptional May (IsIpAddrBlocks Der) (there (ip_octets c.overclaim) true ip) (said_families (says_any (both c.v4 c.v6)) (both c.v4 c.v6))
  asn : Option (List ℕ)
  asn_says : IsOptional May IsAsResources (there (as_octets c.overclaim) true asn) (said_numbers c.asn)
  many : ManyCases (IsExtension Der) ts
      (there id.certificate_policies true policy ++ (there (ip_octets c.overclaim) true ip ++ (there (as_octets c.overclaim) true asn ++ [])))

resources_read : ResourcesAreRead → (c : TbsValue) → IsLawful c → IsReadable c → (ts : Trees) → (written_resources (resource_parts c)).trees Der ts → ReadsResources c ts
resources_read reads c lawful readable ts p =
    let q = p.is_second in
    let policy = listed.one_read id.certificate_policies true Must values.policies (Some c.overclaim) refl policies_identifies (λ x e. policies_read x) p.first p.is_first in
    let ip = listed.one_read (ip_octets c.overclaim) true May values.addresses (said_families (says_any (both c.v4 c.v6)) (both c.v4 c.v6)) tt (ip_identifies c.overclaim)
    (listed.ip_reads reads.families c.v4 c.v6 (lawful.v4 readable.whole) lawful.v6) q.first q.is_first in
    let asn = listed.one_read (as_octets c.overclaim) true May values.asns (said_numbers c.asn) tt (asn_identifies c.overclaim) (listed.asn_reads reads.numbers c.asn lawful.asn) q.second q.is_second in
    let of_asn : List Extension = there (as_octets c.overclaim) true asn.found ++ [] in
    let of_ip : List Extension = there (ip_octets c.overclaim) true ip.found ++ of_asn in
    record {
      policy = policy.found;
      policy_says = policy.says;
      ip = ip.found;
      ip_says = ip.says;
      asn = asn.found;
      asn_says = asn.says;
      many =
          many_both (IsExtension Der) p (there id.certificate_policies true policy.found) of_ip policy.many
          (many_both (IsExtension Der) q (there (ip_octets c.overclaim) true ip.found) of_asn ip.many
          (many_end (IsExtension Der) q.second (there (as_octets c.overclaim) true asn.found) asn.many));
    }

-- All of them.
pub record ReadsAllOf (c : TbsValue) (ts : Trees) : Type 0 where
  pub all : List Extension
  pub many : ManyCases (IsExtension Der) ts all
  pub has : HasExtensions all c

some_there : (c : TbsValue) (ips asns : List Extension) → IsReadable c
    → IsOptional May (IsIpAddrBlocks Der) ips (said_families (says_any (both c.v4 c.v6)) (both c.v4 c.v6)) → IsOptional May IsAsResources asns (said_numbers c.asn)
    → (ips ≢ []) ⊎ (asns ≢ [])
some_there c ips asns readable p q = elim readable.some [
  | inl v4 ↦ inl (listed.ip_some c.v4 c.v6 ips p (λ h. v4 h.0))
  | inr others ↦ elim others [
    | inl v6 ↦ inl (listed.ip_some c.v4 c.v6 ips p (λ h. v6 h.1))
    | inr asn ↦ inr (listed.asn_some c.asn asns q asn)
  ]
]

pub extensions_read : ResourcesAreRead → (c : TbsValue) → IsLawful c → IsReadable c → (ts : Trees) → (extensions c).trees Der ts → ReadsAllOf c ts
extensions_read reads c lawful readable ts p =
    let v = c.overclaim in
    let k = keys_read c lawful p.first p.is_first in
    let q = p.is_second in
    let n = places_read c lawful q.first q.is_first in
    let r = resources_read reads c lawful readable q.second q.is_second in
    let f : listed.Found = record {
      basic = k.basic;
      subject = k.subject;
      authority = k.authority;
      usage = k.usage;
      purposes = k.purposes;
      crl = n.crl;
      issuer = n.issuer;
      access = n.access;
      policy = r.policy;
      ip = r.ip;
      asn = r.asn;
    } in
    let all = flat (listed.places v f) in
    let keys : List Extension = flat (listed.key_places f) in
    let names : List Extension = flat (listed.name_places f) in
    let resources : List Extension = flat (listed.resource_places v f) in
    let parts = many_both (IsExtension Der) p keys (names ++ resources) k.many (many_both (IsExtension Der) q names resources n.many r.many) in
    let joined_lists : flat (listed.key_places f) ++ (flat (listed.name_places f) ++ flat (listed.resource_places v f)) ≡ all =
    ap (λ (ys : List Extension). flat (listed.key_places f) ++ ys) (flat_append (listed.name_places f) (listed.resource_places v f))
    ∙ flat_append (listed.key_places f) (listed.name_places f ++ listed.resource_places v f) in
    let ips = of_only (ip_octets v) (listed.places v f) (item (ip_octets v) true f.ip) (listed.ip_only f v) in
    let asns = of_only (as_octets v) (listed.places v f) (item (as_octets v) true f.asn) (listed.asn_only f v) in
    record {
      all = all;
      many = subst (λ (es : List Extension). ManyCases (IsExtension Der) ts es) joined_lists parts;
      has = record {
        skipped = all_known (listed.places v f) (listed.kinds_known f v);
        basic_constraints = subst (λ (es : List Extension). IsOptional Must IsBasicConstraints es c.basic_ca)
            (sym (of_only id.basic_constraints (listed.places v f) (item id.basic_constraints true f.basic) (listed.basic_only f v))) k.basic_says;
        subject_key_identifier = subst (λ (es : List Extension). IsOptional MustNot IsSubjectKeyIdentifier es (Some c.subject_key_identifier))
            (sym (of_only id.subject_key_identifier (listed.places v f) (item id.subject_key_identifier false f.subject) (listed.subject_only f v))) k.subject_says;
        authority_key_identifier = subst (λ (es : List Extension). IsOptional MustNot IsAuthorityKeyIdentifier es c.authority_key_identifier)
            (sym (of_only id.authority_key_identifier (listed.places v f) (item id.authority_key_identifier false f.authority) (listed.authority_only f v))) k.authority_says;
        key_usage = subst (λ (es : List Extension). IsOptional Must IsKeyUsage es (Some c.key_usage))
            (sym (of_only id.key_usage (listed.places v f) (item id.key_usage true f.usage) (listed.usage_only f v))) k.usage_says;
        extended_key_usage = subst (λ (es : List Extension). IsOptional MustNot IsExtendedKeyUsage es c.extended_key_usage)
            (sym (of_only id.extended_key_usage (listed.places v f) (item id.extended_key_usage false f.purposes) (listed.purposes_only f v))) k.purposes_says;
        crl_distribution = subst (λ (es : List Extension). IsOptional MustNot IsCrlDistribution es c.crl_uri)
            (sym (of_only id.crl_distribution_points (listed.places v f) (item id.crl_distribution_points false f.crl) (listed.crl_only f v))) n.crl_says;
        authority_access = subst (λ (es : List Extension). IsOptional MustNot IsAuthorityAccess es c.ca_issuer)
            (sym (of_only id.authority_info_access (listed.places v f) (item id.authority_info_access false f.issuer) (listed.issuer_only f v))) n.issuer_says;
        subject_access = listed.access_says c.access all (subst (λ (es : List Extension). IsOptional MustNot IsSubjectAccess es (some_access c.access))
            (sym (of_only id.subject_info_access (listed.places v f) (item id.subject_info_access false f.access) (listed.access_only f v))) n.access_says);
        policies = subst (λ (es : List Extension). IsOptional Must IsPolicies es (Some c.overclaim))
            (sym (of_only id.certificate_policies (listed.places v f) (item id.certificate_policies true f.policy) (listed.policy_only f v))) r.policy_says;
        resources = record {
          ip = subst (λ (es : List Extension). AreIpResources es c.v4 c.v6) (sym ips) (listed.ip_says c.v4 c.v6 (there (ip_octets v) true f.ip) r.ip_says);
          asn = subst (λ (es : List Extension). AreAsResources es c.asn) (sym asns) (listed.asn_says c.asn (there (as_octets v) true f.asn) r.asn_says);
          no_other_ip = of_none _ (listed.places v f) (listed.no_other_ip f v);
          no_other_asn = of_none _ (listed.places v f) (listed.no_other_asn f v);
          some = subst (λ (es : List Extension). (es ≢ []) ⊎ (of_kind (as_octets v) all ≢ [])) (sym ips)
              (subst (λ (es : List Extension). (there (ip_octets v) true f.ip ≢ []) ⊎ (es ≢ [])) (sym asns)
              (some_there c (there (ip_octets v) true f.ip) (there (as_octets v) true f.asn) readable r.ip_says r.asn_says));
        };
      };
    }
