-- One more extension: which slot it fills, or why it is refused.
use Rattle.std.specs.Prelude.{◌≡◌, ℕ, Bool, true, false, List, [], ◌∷◌, ◌++◌, Option, Some, None, bytes_eq}
use Rattle.certs_extension.specs.bcder_tree.declared.mode.Mode.TheVariants.{Der}
use Rattle.certs_extension.specs.bcder_tree.Tree.{Tree}
use Rattle.certs_extension.specs.bcder_content.Texts.{ReadsFront}
use Rattle.certs_extension.specs.certs_basics.Identifiers as id
use Rattle.certs_extension.specs.resources_as.Encodings.{IsAsResources}
use Rattle.certs_extension.specs.resources_chain.declared.claims.Overclaim.{Overclaim}
use Rattle.certs_extension.specs.resources_chain.declared.claims.Overclaim.TheVariants.{Refuse, Trim}
use Rattle.certs_extension.specs.resources_as.Identifiers.{as_octets, ip_octets}
use Rattle.certs_extension.specs.Putting.{IsRead}
use Rattle.certs_extension.specs.declared.error.ExtensionError.{ExtensionError}
use Rattle.certs_extension.specs.declared.error.ExtensionError.TheVariants.{Duplicate, Criticality, UnknownCritical, BadValue, MissingResources, MissingPolicy, WrongIpResources, WrongAsResources, MissingSubjectKeyIdentifier, MissingKeyUsage, Memory}
use Rattle.certs_extension.specs.CertAccess.{IsSubjectAccess}
use Rattle.certs_extension.specs.Extensions.{Extension, IsAuthorityAccess, IsAuthorityKeyIdentifier, IsBasicConstraints, IsCrlDistribution, IsExtendedKeyUsage, IsKeyUsage, IsPolicies, IsSubjectKeyIdentifier, May, Meets, Must, MustNot, Need}
use Rattle.certs_extension.specs.declared.claims.kinds.Kind.{Kind}
use Rattle.certs_extension.specs.declared.claims.kinds.Kind.TheVariants as kinds
use Rattle.certs_extension.specs.declared.claims.slots.Slots.{Slots}
use Rattle.certs_extension.specs.ExtensionKinds.{IsNamed, octets_of}
use Rattle.certs_extension.specs.Slots.{AreFamilies, AreSlots}

-- The slot was empty, the need is met, and what the octets begin with is there.
pub record Fills {A : Type 0} (need : Need) (Q : Tree → A → Type 0) (e : Extension)
    (old new : Option A) : Type 0 where
  pub empty : old ≡ None
  pub met : Meets need e.critical
  pub value : A
  pub put : new ≡ Some value
  pub reads : ReadsFront Q e.octets value

-- Why it wasn't filled: the first test that failed, never one after the list.
abbrev pub CannotFill : {A : Type 0} → Need → (Tree → A → Type 0) → Extension → Option A
    → ExtensionError → Type 0
CannotFill need Q e old Duplicate = old ≡ None → ⊥
CannotFill need Q e old Criticality = (old ≡ None) × (Meets need e.critical → ⊥)
CannotFill need Q e old UnknownCritical = ⊥
CannotFill {A} need Q e old BadValue = IsRead need e old × ((x : A) → ReadsFront Q e.octets x → ⊥)
CannotFill need Q e old MissingResources = ⊥
CannotFill need Q e old MissingPolicy = ⊥
CannotFill need Q e old WrongIpResources = ⊥
CannotFill need Q e old WrongAsResources = ⊥
CannotFill need Q e old MissingSubjectKeyIdentifier = ⊥
CannotFill need Q e old MissingKeyUsage = ⊥
CannotFill need Q e old Memory = IsRead need e old

-- A value under that policy.
pub record Under {A : Type 0} (policy : Overclaim) (Q : Tree → A → Type 0) (t : Tree)
    (x : Overclaim × A) : Type 0 where
  pub policy_is : x.0 ≡ policy
  pub is : Q t x.1

-- Why an extension of that kind is refused: its slot, where it has one, decides; an unknown one is critical.
abbrev pub CannotPut : Kind → Extension → Slots → ExtensionError → Type 0
CannotPut kinds.BasicConstraints e s = CannotFill Must IsBasicConstraints e s.basic_ca
CannotPut kinds.SubjectKeyIdentifier e s =
    CannotFill MustNot IsSubjectKeyIdentifier e s.subject_key_identifier
CannotPut kinds.AuthorityKeyIdentifier e s =
    CannotFill MustNot IsAuthorityKeyIdentifier e s.authority_key_identifier
CannotPut kinds.KeyUsage e s = CannotFill Must IsKeyUsage e s.key_usage
CannotPut kinds.ExtendedKeyUsage e s = CannotFill MustNot IsExtendedKeyUsage e s.extended_key_usage
CannotPut kinds.CrlDistributionPoints e s = CannotFill MustNot IsCrlDistribution e s.crl_uri
CannotPut kinds.AuthorityInfoAccess e s = CannotFill MustNot IsAuthorityAccess e s.ca_issuer
CannotPut kinds.SubjectInfoAccess e s = CannotFill MustNot IsSubjectAccess e s.access
CannotPut kinds.CertificatePolicies e s = CannotFill Must IsPolicies e s.policy
CannotPut kinds.IpResources e s = CannotFill May (Under Refuse (AreFamilies Der)) e s.ip
CannotPut kinds.AsResources e s = CannotFill May (Under Refuse IsAsResources) e s.asn
CannotPut kinds.IpResourcesV2 e s = CannotFill May (Under Trim (AreFamilies Der)) e s.ip
CannotPut kinds.AsResourcesV2 e s = CannotFill May (Under Trim IsAsResources) e s.asn
CannotPut kinds.Unknown e s = λ fault. (fault ≡ UnknownCritical) × (e.critical ≡ true)

-- An extension is refused for that fault, which is its kind's first test that fails.
pub record IsFault (e : Extension) (s : Slots) (fault : ExtensionError) : Type 0 where
  pub kind : Kind
  pub named : IsNamed (octets_of kind) e.kind
  pub why : CannotPut kind e s fault

-- Whatever list the slots are of, they are now of the list with the extension after it.
abbrev pub Adds : Extension → Slots → Slots → Type 0
Adds e old new = (all : List Extension) → AreSlots all old → AreSlots (all ++ (e ∷ [])) new

-- No list in which the extension stands after one of these slots has any slots.
abbrev pub Refuses : Extension → Slots → Type 0
Refuses e old =
    (all behind : List Extension) (s : Slots) → AreSlots all old → AreSlots (all ++ (e ∷ behind)) s
    → ⊥

-- Whether an extension with that identifier is one of that kind.
abbrev pub is_of : Option (List ℕ) → List ℕ → Bool
is_of (Some named) kind = bytes_eq named kind
is_of None kind = false

-- Its slot is filled, or stays as it is.
abbrev pub Sets : {A : Type 0} → Bool → Need → (Tree → A → Type 0) → Extension → Option A → Option A
    → Type 0
Sets true need Q e old new = Fills need Q e old new
Sets false need Q e old new = new ≡ old

abbrev pub SetsUnder : {A : Type 0} → Bool → Bool → (Tree → A → Type 0) → Extension
    → Option (Overclaim × A) → Option (Overclaim × A) → Type 0
SetsUnder true second Q e old new = Fills May (Under Refuse Q) e old new
SetsUnder false true Q e old new = Fills May (Under Trim Q) e old new
SetsUnder false false Q e old new = new ≡ old

-- An unknown extension isn't critical.
abbrev pub IsSkipped : Option (List ℕ) → Extension → Type 0
IsSkipped (Some named) e = Unit {0}
IsSkipped None e = e.critical ≡ false

-- One slot is filled, if that is the identifier of a known extension, and the others stay as they are.
pub record Puts (named : Option (List ℕ)) (e : Extension) (old new : Slots) : Type 0 where
  pub skipped : IsSkipped named e
  pub basic_ca : Sets (is_of named id.basic_constraints) Must IsBasicConstraints e old.basic_ca new.basic_ca
  pub subject_key_identifier : Sets (is_of named id.subject_key_identifier) MustNot IsSubjectKeyIdentifier e old.subject_key_identifier new.subject_key_identifier
  pub authority_key_identifier : Sets (is_of named id.authority_key_identifier) MustNot IsAuthorityKeyIdentifier e old.authority_key_identifier new.authority_key_identifier
  pub key_usage : Sets (is_of named id.key_usage) Must IsKeyUsage e old.key_usage new.key_usage
  pub extended_key_usage : Sets (is_of named id.extended_key_usage) MustNot IsExtendedKeyUsage e old.extended_key_usage new.extended_key_usage
  pub crl_uri : Sets (is_of named id.crl_distribution_points) MustNot IsCrlDistribution e old.crl_uri new.crl_uri
  pub ca_issuer : Sets (is_of named id.authority_info_access) MustNot IsAuthorityAccess e old.ca_issuer new.ca_issuer
  pub access : Sets (is_of named id.subject_info_access) MustNot IsSubjectAccess e old.access new.access
  pub policy : Sets (is_of named id.certificate_policies) Must IsPolicies e old.policy new.policy
  pub ip : SetsUnder (is_of named (ip_octets Refuse)) (is_of named (ip_octets Trim))
      (AreFamilies Der) e old.ip new.ip
  pub asn : SetsUnder (is_of named (as_octets Refuse))
      (is_of named (as_octets Trim)) IsAsResources e old.asn new.asn
