-- A list of extensions, and one more.
use Rattle.std.proofs.Common.{◌≡◌, ◌≢◌, inl, inr, true, false, List, [], ◌∷◌, ◌++◌, refl, sym, ◌∙◌, subst}
use Rattle.certs_extension.specs.bcder_tree.declared.mode.Mode.TheVariants.{Der}
use Rattle.certs_extension.specs.certs_basics.Identifiers as id
use Rattle.certs_extension.specs.certs_basics.Lists.{Each, Mem}
use Rattle.certs_extension.specs.resources_as.Encodings.{IsAsResources}
use Rattle.certs_extension.specs.resources_chain.declared.claims.Overclaim.TheVariants.{Refuse, Trim}
use Rattle.certs_extension.specs.resources_as.Identifiers.{as_octets, ip_octets}
use Rattle.certs_extension.specs.declared.error.ExtensionError.{ExtensionError}
use Rattle.certs_extension.specs.declared.error.ExtensionError.TheVariants.{Memory}
use Rattle.certs_extension.specs.CertAccess.{IsSubjectAccess}
use Rattle.certs_extension.specs.CertText.{IsKnownOrSkipped, known}
use Rattle.certs_extension.specs.Extensions.{Extension, IsAuthorityAccess, IsAuthorityKeyIdentifier, IsBasicConstraints, IsCrlDistribution, IsExtendedKeyUsage, IsKeyUsage, IsPolicies, IsSubjectKeyIdentifier, Must, MustNot}
use Rattle.certs_extension.specs.declared.claims.kinds.Kind.{Kind}
use Rattle.certs_extension.specs.declared.claims.kinds.Kind.TheVariants.{BasicConstraints, SubjectKeyIdentifier, AuthorityKeyIdentifier, KeyUsage, ExtendedKeyUsage, CrlDistributionPoints, AuthorityInfoAccess, SubjectInfoAccess, CertificatePolicies, IpResources, AsResources, IpResourcesV2, AsResourcesV2, Unknown}
use Rattle.certs_extension.specs.declared.claims.slots.Slots.{Slots}
use Rattle.certs_extension.specs.ExtensionKinds.{IsNamed, octets_of}
use Rattle.certs_extension.specs.Filling.{Adds, CannotPut, IsSkipped, Puts, Refuses}
use Rattle.certs_extension.specs.Slots.{AreFamilies}
use Rattle.certs_extension.proofs.SlotLaws.{grown, grown_under, not_grown, not_under}

ip_differ : ip_octets Refuse ≢ ip_octets Trim
ip_differ e = cc

asn_differ : as_octets Refuse ≢ as_octets Trim
asn_differ e = cc

each_behind : {X : Type 0} (P : X → Type 0) (xs ys : List X) → Each P (xs ++ ys) → Each P ys
each_behind P [] ys p = p
each_behind P (x ∷ xs) ys p = each_behind P xs ys p.1

pub each_more : {X : Type 0} (P : X → Type 0) (xs : List X) (y : X) → Each P xs → P y → Each P (xs ++ (y ∷ []))
each_more P [] y p q = (q, tt)
each_more P (x ∷ xs) y p q = (p.0, each_more P xs y p.1 q)

skips : (kind : Kind) (e : Extension) → IsNamed (octets_of kind) e.kind → IsSkipped (octets_of kind) e → IsKnownOrSkipped e
skips BasicConstraints e n s = inl (subst (Mem known) (sym n) (inl refl))
skips SubjectKeyIdentifier e n s = inl (subst (Mem known) (sym n) (inr (inl refl)))
skips AuthorityKeyIdentifier e n s = inl (subst (Mem known) (sym n) (inr (inr (inl refl))))
skips KeyUsage e n s = inl (subst (Mem known) (sym n) (inr (inr (inr (inl refl)))))
skips ExtendedKeyUsage e n s = inl (subst (Mem known) (sym n) (inr (inr (inr (inr (inl refl))))))
skips CrlDistributionPoints e n s = inl (subst (Mem known) (sym n) (inr (inr (inr (inr (inr (inl refl)))))))
skips AuthorityInfoAccess e n s = inl (subst (Mem known) (sym n) (inr (inr (inr (inr (inr (inr (inl refl))))))))
skips SubjectInfoAccess e n s = inl (subst (Mem known) (sym n) (inr (inr (inr (inr (inr (inr (inr (inl refl)))))))))
skips CertificatePolicies e n s = inl (subst (Mem known) (sym n) (inr (inr (inr (inr (inr (inr (inr (inr (inl refl))))))))))
skips IpResources e n s = inl (subst (Mem known) (sym n) (inr (inr (inr (inr (inr (inr (inr (inr (inr (inl refl)))))))))))
skips AsResources e n s = inl (subst (Mem known) (sym n) (inr (inr (inr (inr (inr (inr (inr (inr (inr (inr (inl refl))))))))))))
skips IpResourcesV2 e n s = inl (subst (Mem known) (sym n) (inr (inr (inr (inr (inr (inr (inr (inr (inr (inr (inr (inl refl)))))))))))))
skips AsResourcesV2 e n s = inl (subst (Mem known) (sym n) (inr (inr (inr (inr (inr (inr (inr (inr (inr (inr (inr (inr (inl refl))))))))))))))
skips Unknown e n s = inr (n, s)

-- The slots are those of the list with the extension after it.
pub adds : (kind : Kind) (e : Extension) (old new : Slots) → IsNamed (octets_of kind) e.kind → Puts (octets_of kind) e old new → Adds e old new
adds kind e old new n p all h =
    let named = octets_of kind in
    record {
      skipped = each_more IsKnownOrSkipped all e h.skipped (skips kind e n p.skipped);
      basic_ca = grown Must IsBasicConstraints e named id.basic_constraints n (inl refl) all old.basic_ca new.basic_ca p.basic_ca h.basic_ca;
      subject_key_identifier = grown MustNot IsSubjectKeyIdentifier e named id.subject_key_identifier n (inr (inl refl)) all old.subject_key_identifier new.subject_key_identifier p.subject_key_identifier h.subject_key_identifier;
      authority_key_identifier = grown MustNot IsAuthorityKeyIdentifier e named id.authority_key_identifier n (inr (inr (inl refl))) all old.authority_key_identifier new.authority_key_identifier p.authority_key_identifier h.authority_key_identifier;
      key_usage = grown Must IsKeyUsage e named id.key_usage n (inr (inr (inr (inl refl)))) all old.key_usage new.key_usage p.key_usage h.key_usage;
      extended_key_usage = grown MustNot IsExtendedKeyUsage e named id.extended_key_usage n (inr (inr (inr (inr (inl refl))))) all old.extended_key_usage new.extended_key_usage p.extended_key_usage h.extended_key_usage;
      crl_uri = grown MustNot IsCrlDistribution e named id.crl_distribution_points n (inr (inr (inr (inr (inr (inl refl)))))) all old.crl_uri new.crl_uri p.crl_uri h.crl_uri;
      ca_issuer = grown MustNot IsAuthorityAccess e named id.authority_info_access n (inr (inr (inr (inr (inr (inr (inl refl))))))) all old.ca_issuer new.ca_issuer p.ca_issuer h.ca_issuer;
      access = grown MustNot IsSubjectAccess e named id.subject_info_access n (inr (inr (inr (inr (inr (inr (inr (inl refl)))))))) all old.access new.access p.access h.access;
      policy = grown Must IsPolicies e named id.certificate_policies n (inr (inr (inr (inr (inr (inr (inr (inr (inl refl))))))))) all old.policy new.policy p.policy h.policy;
      ip = grown_under ip_octets ip_differ (AreFamilies Der) e named n (inr (inr (inr (inr (inr (inr (inr (inr (inr (inl refl)))))))))) (inr (inr (inr (inr (inr (inr (inr (inr (inr (inr (inr (inl refl)))))))))))) all old.ip new.ip p.ip h.ip;
      asn = grown_under as_octets asn_differ IsAsResources e named n (inr (inr (inr (inr (inr (inr (inr (inr (inr (inr (inl refl))))))))))) (inr (inr (inr (inr (inr (inr (inr (inr (inr (inr (inr (inr (inl refl))))))))))))) all old.asn new.asn p.asn h.asn;
    }

-- No list that goes on with an extension of that kind has slots.
abbrev pub Rules : Kind → Type 0
Rules kind = (fault : ExtensionError) (e : Extension) (old : Slots) → IsNamed (octets_of kind) e.kind → CannotPut kind e old fault → fault ≢ Memory → Refuses e old

basic_constraints_rules : Rules BasicConstraints
basic_constraints_rules fault e old n h m all ys s p q = not_grown Must IsBasicConstraints e fault id.basic_constraints n all ys old.basic_ca s.basic_ca h m p.basic_ca q.basic_ca

subject_key_identifier_rules : Rules SubjectKeyIdentifier
subject_key_identifier_rules fault e old n h m all ys s p q = not_grown MustNot IsSubjectKeyIdentifier e fault id.subject_key_identifier n all ys old.subject_key_identifier s.subject_key_identifier h m p.subject_key_identifier q.subject_key_identifier

authority_key_identifier_rules : Rules AuthorityKeyIdentifier
authority_key_identifier_rules fault e old n h m all ys s p q = not_grown MustNot IsAuthorityKeyIdentifier e fault id.authority_key_identifier n all ys old.authority_key_identifier s.authority_key_identifier h m p.authority_key_identifier q.authority_key_identifier

key_usage_rules : Rules KeyUsage
key_usage_rules fault e old n h m all ys s p q = not_grown Must IsKeyUsage e fault id.key_usage n all ys old.key_usage s.key_usage h m p.key_usage q.key_usage

extended_key_usage_rules : Rules ExtendedKeyUsage
extended_key_usage_rules fault e old n h m all ys s p q = not_grown MustNot IsExtendedKeyUsage e fault id.extended_key_usage n all ys old.extended_key_usage s.extended_key_usage h m p.extended_key_usage q.extended_key_usage

crl_distribution_points_rules : Rules CrlDistributionPoints
crl_distribution_points_rules fault e old n h m all ys s p q = not_grown MustNot IsCrlDistribution e fault id.crl_distribution_points n all ys old.crl_uri s.crl_uri h m p.crl_uri q.crl_uri

authority_info_access_rules : Rules AuthorityInfoAccess
authority_info_access_rules fault e old n h m all ys s p q = not_grown MustNot IsAuthorityAccess e fault id.authority_info_access n all ys old.ca_issuer s.ca_issuer h m p.ca_issuer q.ca_issuer

subject_info_access_rules : Rules SubjectInfoAccess
subject_info_access_rules fault e old n h m all ys s p q = not_grown MustNot IsSubjectAccess e fault id.subject_info_access n all ys old.access s.access h m p.access q.access

certificate_policies_rules : Rules CertificatePolicies
certificate_policies_rules fault e old n h m all ys s p q = not_grown Must IsPolicies e fault id.certificate_policies n all ys old.policy s.policy h m p.policy q.policy

ip_resources_rules : Rules IpResources
ip_resources_rules fault e old n h m all ys s p q = not_under ip_octets ip_differ (AreFamilies Der) e fault Refuse n all ys old.ip s.ip h m p.ip q.ip

as_resources_rules : Rules AsResources
as_resources_rules fault e old n h m all ys s p q = not_under as_octets asn_differ IsAsResources e fault Refuse n all ys old.asn s.asn h m p.asn q.asn

ip_resources_v2_rules : Rules IpResourcesV2
ip_resources_v2_rules fault e old n h m all ys s p q = not_under ip_octets ip_differ (AreFamilies Der) e fault Trim n all ys old.ip s.ip h m p.ip q.ip

as_resources_v2_rules : Rules AsResourcesV2
as_resources_v2_rules fault e old n h m all ys s p q = not_under as_octets asn_differ IsAsResources e fault Trim n all ys old.asn s.asn h m p.asn q.asn

unknown_or : (e : Extension) → (Mem known e.kind → ⊥) → e.critical ≡ true → IsKnownOrSkipped e → ⊥
unknown_or e n h (inl k) = n k
unknown_or e n h (inr k) = let c : true ≡ false = sym h ∙ k.1 in absurd cc

unknown_rules : Rules Unknown
unknown_rules fault e old n h m all ys s p q = unknown_or e n h.1 (each_behind IsKnownOrSkipped all (e ∷ ys) q.skipped).0

pub refuses : (kind : Kind) → Rules kind
refuses BasicConstraints = basic_constraints_rules
refuses SubjectKeyIdentifier = subject_key_identifier_rules
refuses AuthorityKeyIdentifier = authority_key_identifier_rules
refuses KeyUsage = key_usage_rules
refuses ExtendedKeyUsage = extended_key_usage_rules
refuses CrlDistributionPoints = crl_distribution_points_rules
refuses AuthorityInfoAccess = authority_info_access_rules
refuses SubjectInfoAccess = subject_info_access_rules
refuses CertificatePolicies = certificate_policies_rules
refuses IpResources = ip_resources_rules
refuses AsResources = as_resources_rules
refuses IpResourcesV2 = ip_resources_v2_rules
refuses AsResourcesV2 = as_resources_v2_rules
refuses Unknown = unknown_rules
