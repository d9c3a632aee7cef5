-- What a list of extensions says, a slot for each kind (RFC 6487 4.8).
use Rattle.std.specs.Prelude.{◌≡◌, ℕ, List, [], Option, Some, None}
use Rattle.certs_extension.specs.bcder_tree.declared.mode.Mode.{Mode}
use Rattle.certs_extension.specs.bcder_tree.declared.mode.Mode.TheVariants.{Der}
use Rattle.certs_extension.specs.bcder_tree.Tree.{Tree}
use Rattle.certs_extension.specs.certs_basics.Identifiers as id
use Rattle.certs_extension.specs.certs_basics.Lists.{Each}
use Rattle.certs_extension.specs.resources_as.Encodings.{IsAsResources}
use Rattle.certs_extension.specs.resources_chain.declared.claims.Overclaim.{Overclaim}
use Rattle.certs_extension.specs.resources_chain.declared.claims.Overclaim.TheVariants.{Refuse, Trim}
use Rattle.certs_extension.specs.resources_ip.Encodings.{IsIpAddrBlocks}
use Rattle.certs_extension.specs.resources_ip.Reading.{family_choices}
use Rattle.certs_extension.specs.resources_ip.declared.resources.IpFamilies.{IpFamilies}
use Rattle.certs_extension.specs.resources_as.Identifiers.{as_octets, ip_octets}
use Rattle.certs_extension.specs.CertAccess.{IsSubjectAccess}
use Rattle.certs_extension.specs.CertText.{IsKnownOrSkipped, other}
use Rattle.certs_extension.specs.Extensions.{Extension, IsAuthorityAccess, IsAuthorityKeyIdentifier, IsBasicConstraints, IsCrlDistribution, IsExtendedKeyUsage, IsKeyUsage, IsOptional, IsPolicies, IsSubjectKeyIdentifier, May, Must, MustNot, of_kind}
use Rattle.certs_extension.specs.declared.claims.slots.Slots.{Slots}

-- IPAddrBlocks, of both families (RFC 3779 2.2.3.1).
abbrev pub AreFamilies : Mode → Tree → IpFamilies → Type 0
AreFamilies m t x = IsIpAddrBlocks m t (family_choices x)

-- No resources of that kind, in neither version; or those of one version, critical or not, and none of the other
-- (RFC 8360 4.2).
abbrev pub IsVersioned : {A : Type 0} → (Overclaim → List ℕ) → (Tree → A → Type 0) → List Extension
    → Option (Overclaim × A) → Type 0
IsVersioned octets Q all None =
    (of_kind (octets Refuse) all ≡ []) × (of_kind (octets Trim) all ≡ [])
IsVersioned octets Q all (Some x) =
    (of_kind (octets (other x.0)) all ≡ []) × IsOptional May Q (of_kind (octets x.0) all) (Some x.1)

-- Known extensions at most once each, critical as they must be, and unknown ones not critical.
pub record AreSlots (all : List Extension) (s : Slots) : Type 0 where
  pub skipped : Each IsKnownOrSkipped all
  pub basic_ca : IsOptional Must IsBasicConstraints (of_kind id.basic_constraints all) s.basic_ca
  pub subject_key_identifier : IsOptional MustNot IsSubjectKeyIdentifier
      (of_kind id.subject_key_identifier all) s.subject_key_identifier
  pub authority_key_identifier : IsOptional MustNot IsAuthorityKeyIdentifier
      (of_kind id.authority_key_identifier all) s.authority_key_identifier
  pub key_usage : IsOptional Must IsKeyUsage (of_kind id.key_usage all) s.key_usage
  pub extended_key_usage : IsOptional MustNot IsExtendedKeyUsage
      (of_kind id.extended_key_usage all) s.extended_key_usage
  pub crl_uri : IsOptional MustNot IsCrlDistribution
      (of_kind id.crl_distribution_points all) s.crl_uri
  pub ca_issuer : IsOptional MustNot IsAuthorityAccess
      (of_kind id.authority_info_access all) s.ca_issuer
  pub access : IsOptional MustNot IsSubjectAccess (of_kind id.subject_info_access all) s.access
  pub policy : IsOptional Must IsPolicies (of_kind id.certificate_policies all) s.policy
  pub ip : IsVersioned ip_octets (AreFamilies Der) all s.ip
  pub asn : IsVersioned as_octets IsAsResources all s.asn
