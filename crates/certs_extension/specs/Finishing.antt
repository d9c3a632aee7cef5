-- What slots mean as a whole (RFC 6487 4.8).
use Rattle.std.specs.Prelude.{◌≡◌, ◌≢◌, ◌⊎◌, Option, Some, None}
use Rattle.certs_extension.specs.resources_chain.declared.choice.ResourcesChoice.TheVariants.{Missing}
use Rattle.certs_extension.specs.resources_chain.declared.claims.Overclaim.{Overclaim}
use Rattle.certs_extension.specs.resources_ip.declared.resources.IpFamilies.{IpFamilies}
use Rattle.certs_extension.specs.CertAccess.{AccessValue, no_access}
use Rattle.certs_extension.specs.Cert.{TbsValue}
use Rattle.certs_extension.specs.declared.claims.finish.Claims.{Claims}
use Rattle.certs_extension.specs.declared.claims.slots.Slots.{Slots}
use Rattle.certs_extension.specs.declared.error.ExtensionError.{ExtensionError}
use Rattle.certs_extension.specs.declared.error.ExtensionError.TheVariants.{Duplicate, Criticality, UnknownCritical, BadValue, MissingResources, MissingPolicy, WrongIpResources, WrongAsResources, MissingSubjectKeyIdentifier, MissingKeyUsage, Memory}

-- No resources of a kind mean that they are missing.
abbrev pub no_families : IpFamilies
no_families = record { v4 = Missing; v6 = Missing }

-- There are none of that kind, and so they are missing; or they stand under the policy.
abbrev pub IsUnder : {A : Type 0} → Overclaim → A → Option (Overclaim × A) → A → Type 0
IsUnder policy missing None x = x ≡ missing
IsUnder policy missing (Some y) x = (y.0 ≡ policy) × (x ≡ y.1)

-- They don't stand under another.
abbrev pub Stands : {A : Type 0} → Overclaim → Option (Overclaim × A) → Type 0
Stands policy None = Unit {0}
Stands policy (Some y) = y.0 ≡ policy

-- No subject information access means no URI.
abbrev pub access_of : Option AccessValue → AccessValue
access_of None = no_access
access_of (Some a) = a

-- Resources of one kind are there.
abbrev pub HasSome : Slots → Type 0
HasSome s = (s.ip ≢ None) ⊎ (s.asn ≢ None)

-- The identifier, the key usage and the policy are there, and resources, which stand under this policy.
pub record Finishes (s : Slots) (c : Claims) : Type 0 where
  pub basic_ca : c.basic_ca ≡ s.basic_ca
  pub subject_key_identifier : s.subject_key_identifier ≡ Some c.subject_key_identifier
  pub authority_key_identifier : c.authority_key_identifier ≡ s.authority_key_identifier
  pub key_usage : s.key_usage ≡ Some c.key_usage
  pub extended_key_usage : c.extended_key_usage ≡ s.extended_key_usage
  pub crl_uri : c.crl_uri ≡ s.crl_uri
  pub ca_issuer : c.ca_issuer ≡ s.ca_issuer
  pub access : c.access ≡ access_of s.access
  pub overclaim : s.policy ≡ Some c.overclaim
  pub ip : IsUnder c.overclaim no_families s.ip (record { v4 = c.v4; v6 = c.v6 })
  pub asn : IsUnder c.overclaim Missing s.asn c.asn
  pub some : HasSome s

-- What the extensions of a certificate claim.
abbrev pub claims_of : TbsValue → Claims
claims_of c = record {
  basic_ca = c.basic_ca;
  subject_key_identifier = c.subject_key_identifier;
  authority_key_identifier = c.authority_key_identifier;
  key_usage = c.key_usage;
  extended_key_usage = c.extended_key_usage;
  crl_uri = c.crl_uri;
  ca_issuer = c.ca_issuer;
  access = c.access;
  overclaim = c.overclaim;
  v4 = c.v4;
  v6 = c.v6;
  asn = c.asn;
}

-- There are resources, and a policy.
pub record HasPolicy (s : Slots) (policy : Overclaim) : Type 0 where
  pub some : HasSome s
  pub policy_is : s.policy ≡ Some policy

-- Both kinds stand under it.
pub record HasClaims (s : Slots) (policy : Overclaim) : Type 0 where
  pub policy_is : HasPolicy s policy
  pub ip : Stands policy s.ip
  pub asn : Stands policy s.asn

-- Which test after the list is the first that fails, never one of a single extension.
abbrev pub IsListFault : Slots → ExtensionError → Type 0
IsListFault s Duplicate = ⊥
IsListFault s Criticality = ⊥
IsListFault s UnknownCritical = ⊥
IsListFault s BadValue = ⊥
IsListFault s MissingResources = (s.ip ≡ None) × (s.asn ≡ None)
IsListFault s MissingPolicy = HasSome s × (s.policy ≡ None)
IsListFault s WrongIpResources =
    (policy : Overclaim) × HasPolicy s policy × (Stands policy s.ip → ⊥)
IsListFault s WrongAsResources =
    (policy : Overclaim) × HasPolicy s policy × Stands policy s.ip × (Stands policy s.asn → ⊥)
IsListFault s MissingSubjectKeyIdentifier =
    (policy : Overclaim) × HasClaims s policy × (s.subject_key_identifier ≡ None)
IsListFault s MissingKeyUsage =
    (policy : Overclaim) × HasClaims s policy × (s.subject_key_identifier ≢ None)
    × (s.key_usage ≡ None)
IsListFault s Memory = ⊥
