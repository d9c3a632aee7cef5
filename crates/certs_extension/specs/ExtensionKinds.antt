-- The kinds of extensions that are known, by their identifiers.
use Rattle.std.specs.Prelude.{◌≡◌, ℕ, List, [], ◌∷◌, Option, Some, None}
use Rattle.certs_extension.specs.certs_basics.Identifiers as id
use Rattle.certs_extension.specs.certs_basics.Lists.{Mem}
use Rattle.certs_extension.specs.resources_chain.declared.claims.Overclaim.TheVariants.{Refuse, Trim}
use Rattle.certs_extension.specs.resources_as.Identifiers.{as_octets, ip_octets}
use Rattle.certs_extension.specs.CertText.{known}
use Rattle.certs_extension.specs.declared.claims.kinds.Kind.{Kind}
use Rattle.certs_extension.specs.declared.claims.kinds.Kind.TheVariants.{BasicConstraints, SubjectKeyIdentifier, AuthorityKeyIdentifier, KeyUsage, ExtendedKeyUsage, CrlDistributionPoints, AuthorityInfoAccess, SubjectInfoAccess, CertificatePolicies, IpResources, AsResources, IpResourcesV2, AsResourcesV2, Unknown}

-- Its identifier; an unknown one has any other.
abbrev pub octets_of : Kind → Option (List ℕ)
octets_of BasicConstraints = Some id.basic_constraints
octets_of SubjectKeyIdentifier = Some id.subject_key_identifier
octets_of AuthorityKeyIdentifier = Some id.authority_key_identifier
octets_of KeyUsage = Some id.key_usage
octets_of ExtendedKeyUsage = Some id.extended_key_usage
octets_of CrlDistributionPoints = Some id.crl_distribution_points
octets_of AuthorityInfoAccess = Some id.authority_info_access
octets_of SubjectInfoAccess = Some id.subject_info_access
octets_of CertificatePolicies = Some id.certificate_policies
octets_of IpResources = Some (ip_octets Refuse)
octets_of AsResources = Some (as_octets Refuse)
octets_of IpResourcesV2 = Some (ip_octets Trim)
octets_of AsResourcesV2 = Some (as_octets Trim)
octets_of Unknown = None

-- The octets are that identifier, or no known one.
abbrev pub IsNamed : Option (List ℕ) → List ℕ → Type 0
IsNamed (Some kind) octets = octets ≡ kind
IsNamed None octets = Mem known octets → ⊥

-- The identifiers of what keys are and are for; of where things are found, and of policies; and of resources.
abbrev pub key_kinds : List (List ℕ)
key_kinds =
    id.basic_constraints ∷ id.subject_key_identifier ∷ id.authority_key_identifier ∷ id.key_usage
    ∷ id.extended_key_usage ∷ []

abbrev pub place_kinds : List (List ℕ)
place_kinds = id.crl_distribution_points ∷ id.authority_info_access ∷ id.subject_info_access
    ∷ id.certificate_policies ∷ []

abbrev pub resource_kinds : List (List ℕ)
resource_kinds = ip_octets Refuse ∷ as_octets Refuse ∷ ip_octets Trim ∷ as_octets Trim ∷ []
