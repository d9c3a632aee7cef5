-- What is written of all extensions is read again, by the places of their kinds.
use Rattle.std.proofs.Common.{◌≡◌, ◌≢◌, inl, inr, ℕ, Bool, true, false, List, [], ◌∷◌, ◌++◌, Option, Some, None, IfSome, refl, subst, if◌then◌else◌}
use Rattle.certs.specs.bcder_tree.declared.mode.Mode.TheVariants.{Der}
use Rattle.certs.specs.bcder_tree.Tree.{Tree, Trees, none}
use Rattle.certs.specs.bcder_content.Grammar.{ManyCases}
use Rattle.certs.specs.bcder.Identifiers.{IsIdentifier}
use Rattle.certs.specs.certs_extension.Access.{AccessValue, no_access}
use Rattle.certs.specs.certs_basics.Identifiers as id
use Rattle.certs.specs.certs_basics.Lists.{Each, Mem}
use Rattle.certs.specs.certs_extension.CertAccess.{IsSubjectAccess}
use Rattle.certs.specs.certs_extension.CertText.{AreAsResources, AreIpResources, IsAccess, known, other}
use Rattle.certs.specs.certs_extension.Extensions.{Extension, IsExtension, IsOptional, May, Meets, MustNot, Need, of_kind}
use Rattle.certs.specs.resources_as.Encodings.{IsAsResources}
use Rattle.certs.specs.resources_as.Written.{HasMaximal}
use Rattle.certs.specs.resources_chain.Claims.{Choice}
use Rattle.certs.specs.resources_chain.declared.choice.ResourcesChoice.TheVariants.{Missing, Inherit, Blocks}
use Rattle.certs.specs.resources_chain.declared.claims.Overclaim.{Overclaim}
use Rattle.certs.specs.resources_chain.declared.claims.Overclaim.TheVariants.{Refuse, Trim}
use Rattle.certs.specs.resources_ip.Encodings.{FamilyChoices, IsIpAddrBlocks}
use Rattle.certs.specs.resources_ip.Written.{FitsChoice}
use Rattle.certs.specs.resources_ip.WrittenFamilies.{both, says_any}
use Rattle.certs.specs.resources_ip_prefix.declared.addr.AddressFamily.TheVariants.{Ipv4, Ipv6}
use Rattle.certs.specs.resources_as.Identifiers.{as_octets, ip_octets}
use Rattle.certs.specs.Outputs.{IsReadAs, Output, perhaps}
use Rattle.certs.specs.Resources.{said_families, said_numbers}
use Rattle.certs.specs.Values as values
use Rattle.certs.specs.Values.{extended_if, extension_of, has_any, or_some, some_access}
use Rattle.certs.specs.Laws.{AreAccessUris}
use Rattle.certs.proofs.Access.{access_read}
use Rattle.certs.proofs.Ext.{extension_read}
use Rattle.certs.proofs.Items.{Item, item, items_of, there}
use Rattle.certs.proofs.ValuesRead.{FamiliesAreRead, NumbersAreRead, addresses_read, asns_read}

-- An extension that may be there: the octets of its value, if it is, and what they say.
pub record ReadsOne {A : Type 0} (kind : List ℕ) (critical : Bool) (need : Need) (Q : Tree → A → Type 0) (o : Option A) (ts : Trees) : Type 0 where
  pub found : Option (List ℕ)
  pub many : ManyCases (IsExtension Der) ts (there kind critical found)
  pub says : IsOptional need Q (there kind critical found) o

pub one_read : {A : Type 0} {Q : Tree → A → Type 0} (kind : List ℕ) (critical : Bool) (need : Need) (f : A → Output) (o : Option A) → Meets need critical → IsIdentifier kind
    → ((x : A) → o ≡ Some x → IsReadAs Q x (f x)) → (ts : Trees) → (perhaps (extension_of f) (extended_if kind critical o)).trees Der ts → ReadsOne kind critical need Q o ts
one_read kind critical need f None meets identifies reads ts p = record { found = None; many = p; says = tt }
one_read kind critical need f (Some x) meets identifies reads ts p =
    let e = extension_read kind critical (f x) identifies (reads x refl) ts p in
    record { found = Some e.value; many = (e.tree, none, e.alone, e.is, refl); says = (meets, e.front) }

pub same_some : {A : Type 0} {x y : A} → Some x ≡ Some y → x ≡ y
same_some e = cc

none_some : {A : Type 0} {x : A} → None ≡ Some x → ⊥
none_some e = cc

pub some_is : {A : Type 0} {o : Option A} {x : A} (P : A → Type 0) → IfSome o P → o ≡ Some x → P x
some_is P p e = subst (λ z. IfSome z P) e p

-- The octets of each, in the order of the profile.
pub record Found : Type 0 where
  pub basic : Option (List ℕ)
  pub subject : Option (List ℕ)
  pub authority : Option (List ℕ)
  pub usage : Option (List ℕ)
  pub purposes : Option (List ℕ)
  pub crl : Option (List ℕ)
  pub issuer : Option (List ℕ)
  pub access : Option (List ℕ)
  pub policy : Option (List ℕ)
  pub ip : Option (List ℕ)
  pub asn : Option (List ℕ)

abbrev pub key_places : Found → List Item
key_places f =
    item id.basic_constraints true f.basic ∷ item id.subject_key_identifier false f.subject ∷ item id.authority_key_identifier false f.authority
    ∷ item id.key_usage true f.usage ∷ item id.extended_key_usage false f.purposes ∷ []

abbrev pub name_places : Found → List Item
name_places f =
    item id.crl_distribution_points false f.crl ∷ item id.authority_info_access false f.issuer ∷ item id.subject_info_access false f.access ∷ []

abbrev pub resource_places : Overclaim → Found → List Item
resource_places v f = item id.certificate_policies true f.policy ∷ item (ip_octets v) true f.ip ∷ item (as_octets v) true f.asn ∷ []

abbrev pub places : Overclaim → Found → List Item
places v f = key_places f ++ (name_places f ++ resource_places v f)

module _ (f : Found) where
  pub basic_only : (v : Overclaim) → items_of id.basic_constraints (places v f) ≡ item id.basic_constraints true f.basic ∷ []
  basic_only Refuse = refl
  basic_only Trim = refl

  pub subject_only : (v : Overclaim) → items_of id.subject_key_identifier (places v f) ≡ item id.subject_key_identifier false f.subject ∷ []
  subject_only Refuse = refl
  subject_only Trim = refl

  pub authority_only : (v : Overclaim) → items_of id.authority_key_identifier (places v f) ≡ item id.authority_key_identifier false f.authority ∷ []
  authority_only Refuse = refl
  authority_only Trim = refl

  pub usage_only : (v : Overclaim) → items_of id.key_usage (places v f) ≡ item id.key_usage true f.usage ∷ []
  usage_only Refuse = refl
  usage_only Trim = refl

  pub purposes_only : (v : Overclaim) → items_of id.extended_key_usage (places v f) ≡ item id.extended_key_usage false f.purposes ∷ []
  purposes_only Refuse = refl
  purposes_only Trim = refl

  pub crl_only : (v : Overclaim) → items_of id.crl_distribution_points (places v f) ≡ item id.crl_distribution_points false f.crl ∷ []
  crl_only Refuse = refl
  crl_only Trim = refl

  pub issuer_only : (v : Overclaim) → items_of id.authority_info_access (places v f) ≡ item id.authority_info_access false f.issuer ∷ []
  issuer_only Refuse = refl
  issuer_only Trim = refl

  pub access_only : (v : Overclaim) → items_of id.subject_info_access (places v f) ≡ item id.subject_info_access false f.access ∷ []
  access_only Refuse = refl
  access_only Trim = refl

  pub policy_only : (v : Overclaim) → items_of id.certificate_policies (places v f) ≡ item id.certificate_policies true f.policy ∷ []
  policy_only Refuse = refl
  policy_only Trim = refl

  pub ip_only : (v : Overclaim) → items_of (ip_octets v) (places v f) ≡ item (ip_octets v) true f.ip ∷ []
  ip_only Refuse = refl
  ip_only Trim = refl

  pub asn_only : (v : Overclaim) → items_of (as_octets v) (places v f) ≡ item (as_octets v) true f.asn ∷ []
  asn_only Refuse = refl
  asn_only Trim = refl

  pub no_other_ip : (v : Overclaim) → items_of (ip_octets (other v)) (places v f) ≡ []
  no_other_ip Refuse = refl
  no_other_ip Trim = refl

  pub no_other_asn : (v : Overclaim) → items_of (as_octets (other v)) (places v f) ≡ []
  no_other_asn Refuse = refl
  no_other_asn Trim = refl

  abbrev IsKnown : Item → Type 0
  IsKnown s = Mem known s.kind

  pub kinds_known : (v : Overclaim) → Each IsKnown (places v f)
  kinds_known Refuse = (
    inl refl,
    (
      inr (inl refl),
      (
        inr (inr (inl refl)),
        (
          inr (inr (inr (inl refl))),
          (
            inr (inr (inr (inr (inl refl)))),
            (
              inr (inr (inr (inr (inr (inl refl))))),
              (
                inr (inr (inr (inr (inr (inr (inl refl)))))),
                (
                  inr (inr (inr (inr (inr (inr (inr (inl refl))))))),
                  (
                    inr (inr (inr (inr (inr (inr (inr (inr (inl refl)))))))),
                    (
                      inr (inr (inr (inr (inr (inr (inr (inr (inr (inl refl))))))))),
                      (inr (inr (inr (inr (inr (inr (inr (inr (inr (inr (inl refl)))))))))), tt),
                    ),
                  ),
                ),
              ),
            ),
          ),
        ),
      ),
    ),
  )
  kinds_known Trim = (
    inl refl,
    (
      inr (inl refl),
      (
        inr (inr (inl refl)),
        (
          inr (inr (inr (inl refl))),
          (
            inr (inr (inr (inr (inl refl)))),
            (
              inr (inr (inr (inr (inr (inl refl))))),
              (
                inr (inr (inr (inr (inr (inr (inl refl)))))),
                (
                  inr (inr (inr (inr (inr (inr (inr (inl refl))))))),
                  (
                    inr (inr (inr (inr (inr (inr (inr (inr (inl refl)))))))),
                    (
                      inr (inr (inr (inr (inr (inr (inr (inr (inr (inr (inr (inl refl))))))))))),
                      (inr (inr (inr (inr (inr (inr (inr (inr (inr (inr (inr (inr (inl refl)))))))))))), tt),
                    ),
                  ),
                ),
              ),
            ),
          ),
        ),
      ),
    ),
  )

-- Subject information access, which is there where there is a URI.
no_uris : (r m o n : Option (List ℕ)) → or_some r (or_some m (or_some o (or_some n false))) ≡ false
    → (let a : AccessValue = record { repository = r; manifest = m; object = o; notify = n } in a) ≡ no_access
no_uris (Some x) m o n e = let t : true ≡ false = e in absurd cc
no_uris None (Some x) o n e = let t : true ≡ false = e in absurd cc
no_uris None None (Some x) n e = let t : true ≡ false = e in absurd cc
no_uris None None None (Some x) e = let t : true ≡ false = e in absurd cc
no_uris None None None None e = refl

pub access_reads : (a : AccessValue) → AreAccessUris a → (x : AccessValue) → some_access a ≡ Some x → IsReadAs IsSubjectAccess x (values.subject_access x)
access_reads a uris x e = at (has_any a) refl e
  where
    at : (b : Bool) → has_any a ≡ b → (if b then Some a else None) ≡ Some x → IsReadAs IsSubjectAccess x (values.subject_access x)
    at true some e = subst (λ (z : AccessValue). IsReadAs IsSubjectAccess z (values.subject_access z)) (same_some e) (access_read a uris some)
    at false missing e = absurd (none_some e)

pub access_says : (a : AccessValue) (all : List Extension) → IsOptional MustNot IsSubjectAccess (of_kind id.subject_info_access all) (some_access a) → IsAccess all a
access_says a all p = at (has_any a) refl p
  where
    at : (b : Bool) → has_any a ≡ b → IsOptional MustNot IsSubjectAccess (of_kind id.subject_info_access all) (if b then Some a else None) → IsAccess all a
    at true some q = inr q
    at false missing q = inl (q, no_uris a.repository a.manifest a.object a.notify missing)

-- IP resources, which are there where one family isn't missing.
any_there : (v4 v6 : Choice) → says_any (both v4 v6) ≡ true → ¬ ((v4 ≡ Missing) × (v6 ≡ Missing))
any_there Missing Missing e = let t : false ≡ true = e in absurd cc
any_there Missing Inherit e = λ h. let t : Inherit ≡ Missing = h.1 in cc
any_there Missing (Blocks runs) e = λ h. let t : Blocks runs ≡ Missing = h.1 in cc
any_there Inherit v6 e = λ h. let t : Inherit ≡ Missing = h.0 in cc
any_there (Blocks runs) v6 e = λ h. let t : Blocks runs ≡ Missing = h.0 in cc

none_there : (v4 v6 : Choice) → says_any (both v4 v6) ≡ false → (v4 ≡ Missing) × (v6 ≡ Missing)
none_there Missing Missing e = (refl, refl)
none_there Missing Inherit e = let t : true ≡ false = e in absurd cc
none_there Missing (Blocks runs) e = let t : true ≡ false = e in absurd cc
none_there Inherit v6 e = let t : true ≡ false = e in absurd cc
none_there (Blocks runs) v6 e = let t : true ≡ false = e in absurd cc

pub ip_reads : FamiliesAreRead → (v4 v6 : Choice) → FitsChoice Ipv4 v4 → FitsChoice Ipv6 v6 → (x : FamilyChoices) → said_families (says_any (both v4 v6)) (both v4 v6) ≡ Some x → IsReadAs (IsIpAddrBlocks Der) x (values.addresses x)
ip_reads families v4 v6 fit_v4 fit_v6 x e = at (says_any (both v4 v6)) refl e
  where
    at : (b : Bool) → says_any (both v4 v6) ≡ b → said_families b (both v4 v6) ≡ Some x → IsReadAs (IsIpAddrBlocks Der) x (values.addresses x)
    at true some e = subst (λ (z : FamilyChoices). IsReadAs (IsIpAddrBlocks Der) z (values.addresses z)) (same_some e) (addresses_read families v4 v6 fit_v4 fit_v6 (any_there v4 v6 some))
    at false missing e = absurd (none_some e)

pub ip_says : (v4 v6 : Choice) (es : List Extension) → IsOptional May (IsIpAddrBlocks Der) es (said_families (says_any (both v4 v6)) (both v4 v6)) → AreIpResources es v4 v6
ip_says v4 v6 es p = at (says_any (both v4 v6)) refl es p
  where
    at : (b : Bool) → says_any (both v4 v6) ≡ b → (es : List Extension) → IsOptional May (IsIpAddrBlocks Der) es (said_families b (both v4 v6)) → AreIpResources es v4 v6
    at true some [] q = absurd q
    at true some (e ∷ []) q = q.1
    at true some (e ∷ f ∷ es) q = absurd q
    at false missing [] q = none_there v4 v6 missing
    at false missing (e ∷ []) q = absurd q
    at false missing (e ∷ f ∷ es) q = absurd q

pub ip_some : (v4 v6 : Choice) (es : List Extension) → IsOptional May (IsIpAddrBlocks Der) es (said_families (says_any (both v4 v6)) (both v4 v6)) → ¬ ((v4 ≡ Missing) × (v6 ≡ Missing)) → es ≢ []
ip_some v4 v6 [] p some = λ e. at (says_any (both v4 v6)) refl p
  where
    at : (b : Bool) → says_any (both v4 v6) ≡ b → IsOptional May (IsIpAddrBlocks Der) [] (said_families b (both v4 v6)) → ⊥
    at true so q = q
    at false missing q = some (none_there v4 v6 missing)
ip_some v4 v6 (x ∷ es) p some = λ e. cc

-- AS resources, which are there where they aren't missing.
pub asn_reads : NumbersAreRead → (choice : Choice) → HasMaximal choice → (x : Choice) → said_numbers choice ≡ Some x → IsReadAs IsAsResources x (values.asns x)
asn_reads numbers Missing maximal x e = absurd (none_some e)
asn_reads numbers Inherit maximal x e = subst (λ (z : Choice). IsReadAs IsAsResources z (values.asns z)) (same_some e) (asns_read numbers Inherit maximal (λ h. cc))
asn_reads numbers (Blocks runs) maximal x e = subst (λ (z : Choice). IsReadAs IsAsResources z (values.asns z)) (same_some e) (asns_read numbers (Blocks runs) maximal (λ h. cc))

pub asn_says : (choice : Choice) (es : List Extension) → IsOptional May IsAsResources es (said_numbers choice) → AreAsResources es choice
asn_says Missing [] p = refl
asn_says Missing (e ∷ []) p = absurd p
asn_says Missing (e ∷ f ∷ es) p = absurd p
asn_says Inherit [] p = absurd p
asn_says Inherit (e ∷ []) p = p.1
asn_says Inherit (e ∷ f ∷ es) p = absurd p
asn_says (Blocks runs) [] p = absurd p
asn_says (Blocks runs) (e ∷ []) p = p.1
asn_says (Blocks runs) (e ∷ f ∷ es) p = absurd p

pub asn_some : (choice : Choice) (es : List Extension) → IsOptional May IsAsResources es (said_numbers choice) → choice ≢ Missing → es ≢ []
asn_some Missing es p some = absurd (some refl)
asn_some Inherit [] p some = absurd p
asn_some Inherit (x ∷ es) p some = λ e. cc
asn_some (Blocks runs) [] p some = absurd p
asn_some (Blocks runs) (x ∷ es) p some = λ e. cc
