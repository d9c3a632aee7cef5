-- Values of extensions as they are written (RFC 5280 4.2, RFC 6487 4.8, RFC 3779).
use Rattle.std.specs.Prelude.{◌≡◌, ℕ, Bool, true, false, List, Option, Some, None, if◌then◌else◌}
use Rattle.certs.specs.bcder_tree.declared.mode.Mode.{Mode}
use Rattle.certs.specs.bcder_tree.declared.mode.Mode.TheVariants.{Der}
use Rattle.certs.specs.bcder_tree.Strings.{octet_string_tag}
use Rattle.certs.specs.bcder_tree.Tree.{Trees}
use Rattle.certs.specs.bcder_octets.Wrapping.{IsAround, WritesAround, around_one, around_spelled}
use Rattle.certs.specs.bcder_values.Laws.{both_one, both_spelled}
use Rattle.certs.specs.bcder_values.Wraps.{wrapped_one, wrapped_spelled}
use Rattle.certs.specs.bcder_primitive.Encoded.{AreBoth, IsWrapped, SpellsSome, WritesBoth, WritesWrapped}
use Rattle.certs.specs.bcder_octets.BitContents.{bit_string_tag}
use Rattle.certs.specs.bcder_tree.Tags.{context, sequence_tag}
use Rattle.certs.specs.bcder.Kinds.{boolean, octets_at, oid}
use Rattle.certs_key.specs.Forms.{raw}
use Rattle.certs.specs.certs_basics.Identifiers as id
use Rattle.certs_extension.specs.Purposes as eku
use Rattle.certs_extension.specs.Usages.{usage_octets}
use Rattle.certs.specs.certs_extension.CertAccess.{AccessValue}
use Rattle.certs.specs.certs_extension.declared.forms.KeyUsage.{KeyUsage}
use Rattle.certs.specs.resources_as.Written as numbers
use Rattle.certs.specs.resources_chain.Claims.{Choice}
use Rattle.certs.specs.resources_chain.declared.claims.Overclaim.{Overclaim}
use Rattle.certs.specs.resources_ip.Encodings.{FamilyChoices}
use Rattle.certs.specs.resources_ip.WrittenFamilies.{FamiliesTrees, WritesFamilies, families_one, families_spelled}
use Rattle.certs.specs.resources_as.Identifiers.{policy_octets}
use Rattle.certs.specs.Outputs.{Output, beside, inside, of, perhaps}

-- BOOLEAN DEFAULT FALSE: TRUE, or nothing (X.690 11.5).
abbrev pub shown : Bool → Option Bool
shown true = Some true
shown false = None

abbrev pub truth : Bool → Output
truth b = perhaps (of boolean) (shown b)

-- An extension: which one it is, whether it is critical, and its value.
pub record ExtensionOf (V : Type 0) : Type 0 where
  pub kind : List ℕ
  pub critical : Bool
  pub value : V

-- Where there is a value, it is an extension of that kind.
abbrev pub extended : {V : Type 0} → List ℕ → Bool → V → ExtensionOf V
extended kind critical value = record { kind = kind; critical = critical; value = value }

abbrev pub extended_if : {V : Type 0} → List ℕ → Bool → Option V → Option (ExtensionOf V)
extended_if kind critical None = None
extended_if kind critical (Some value) = Some (extended kind critical value)

-- Extension ::= SEQUENCE { extnID OBJECT IDENTIFIER, critical BOOLEAN DEFAULT FALSE, extnValue OCTET STRING } (RFC 5280 4.1)
abbrev pub ExtensionTrees : List ℕ → Bool → (List ℕ → Type 0) → Mode → Trees → Type 0
ExtensionTrees kind critical P m =
    IsWrapped sequence_tag (AreBoth (oid.trees kind m)
    (AreBoth ((truth critical).trees m) (IsAround m octet_string_tag P)))

abbrev pub ExtensionText : List ℕ → Bool → (List ℕ → Type 0) → Mode → List ℕ → Type 0
ExtensionText kind critical P m =
    WritesWrapped m sequence_tag (WritesBoth (oid.writes kind m)
    (WritesBoth ((truth critical).writes m) (WritesAround m octet_string_tag P)))

pub extension_spelled : (kind : List ℕ) (critical : Bool) (P : List ℕ → Type 0) (m : Mode)
    (text : List ℕ) → ExtensionText kind critical P m text
    → SpellsSome m (ExtensionTrees kind critical P m) text
extension_spelled kind critical P m =
    wrapped_spelled m (both_spelled m (oid.spelled kind m)
    (both_spelled m ((truth critical).spelled m) (λ text w. around_spelled m text w)))

pub extension_text : (kind : List ℕ) (critical : Bool) (P : List ℕ → Type 0)
    → ((a b : List ℕ) → P a → P b → a ≡ b) → (m : Mode) (a b : List ℕ)
    → ExtensionText kind critical P m a → ExtensionText kind critical P m b → a ≡ b
extension_text kind critical P one m =
    wrapped_one m (both_one (oid.one_text kind m)
    (both_one ((truth critical).one_text m) (λ a b v w. around_one m one a b v w)))

abbrev pub extension : List ℕ → Bool → Output → Output
extension kind critical value = record {
  trees = ExtensionTrees kind critical (value.writes Der);
  writes = ExtensionText kind critical (value.writes Der);
  spelled = extension_spelled kind critical (value.writes Der);
  one_text = extension_text kind critical (value.writes Der) (value.one_text Der);
}

abbrev pub extension_of : {V : Type 0} → (V → Output) → ExtensionOf V → Output
extension_of f e = extension e.kind e.critical (f e.value)

-- BasicConstraints ::= SEQUENCE { cA BOOLEAN DEFAULT FALSE } (RFC 6487 4.8.1)
abbrev pub basic_constraints : Bool → Output
basic_constraints ca = inside sequence_tag (truth ca)

-- SubjectKeyIdentifier ::= OCTET STRING (RFC 6487 4.8.2)
abbrev pub subject_key : List ℕ → Output
subject_key = of (octets_at octet_string_tag)

-- AuthorityKeyIdentifier ::= SEQUENCE { keyIdentifier [0] IMPLICIT OCTET STRING } (RFC 6487 4.8.3)
abbrev pub authority_key : List ℕ → Output
authority_key octets = inside sequence_tag (of (octets_at (context 0)) octets)

-- KeyUsage ::= BIT STRING (RFC 6487 4.8.4)
abbrev pub key_usage : KeyUsage → Output
key_usage usage = of (raw bit_string_tag) (usage_octets usage)

-- ExtKeyUsageSyntax ::= SEQUENCE OF KeyPurposeId (RFC 5280 4.2.1.12)
abbrev pub purposes : List (List ℕ) → Output
purposes = of eku.purposes

-- uniformResourceIdentifier [6] IMPLICIT IA5String (RFC 5280 4.2.1.6)
abbrev pub uri_name : List ℕ → Output
uri_name = of (octets_at (context 6))

-- CRLDistributionPoints ::= SEQUENCE { SEQUENCE { distributionPoint [0] { fullName [0] { uri } } } } (RFC 6487 4.8.6)
abbrev pub crl : List ℕ → Output
crl uri = inside sequence_tag (inside sequence_tag
    (inside (context 0) (inside (context 0) (uri_name uri))))

-- AccessDescription ::= SEQUENCE { accessMethod OBJECT IDENTIFIER, accessLocation } (RFC 5280 4.2.2)
pub record Located : Type 0 where
  pub method : List ℕ
  pub uri : List ℕ

abbrev pub located : List ℕ → Option (List ℕ) → Option Located
located method None = None
located method (Some uri) = Some (record { method = method; uri = uri })

abbrev pub location : Located → Output
location l = inside sequence_tag (beside (of oid l.method) (uri_name l.uri))

-- AuthorityInfoAccessSyntax ::= SEQUENCE { caIssuers } (RFC 6487 4.8.7)
abbrev pub issuer_access : List ℕ → Output
issuer_access uri = inside sequence_tag (location (record { method = id.ca_issuers; uri = uri }))

-- SubjectInfoAccessSyntax: repository, manifest, signed object and notification, those that there are (RFC 6487 4.8.8, RFC 8182 3.2)
abbrev pub locations : AccessValue → Option Located
    × (Option Located × (Option Located × Option Located))
locations a = (
  located id.ca_repository a.repository,
  (located id.rpki_manifest a.manifest, (located id.signed_object a.object, located id.rpki_notify a.notify)),
)

abbrev pub all_locations : Option Located × (Option Located × (Option Located × Option Located))
    → Output
all_locations l = inside sequence_tag
    (beside (perhaps location l.0) (beside (perhaps location l.1.0)
    (beside (perhaps location l.1.1.0) (perhaps location l.1.1.1))))

abbrev pub subject_access : AccessValue → Output
subject_access a = all_locations (locations a)

-- Whether there is a URI of any method, and those that there are, if any.
abbrev pub or_some : {A : Type 0} → Option A → Bool → Bool
or_some None others = others
or_some (Some x) others = true

abbrev pub has_any : AccessValue → Bool
has_any a = or_some a.repository (or_some a.manifest (or_some a.object (or_some a.notify false)))

abbrev pub some_access : AccessValue → Option AccessValue
some_access a = if has_any a then Some a else None

-- CertificatePolicies ::= SEQUENCE { SEQUENCE { policyIdentifier } } (RFC 6487 4.8.9)
abbrev pub policies : Overclaim → Output
policies policy = inside sequence_tag (inside sequence_tag (of oid (policy_octets policy)))

-- IPAddrBlocks of the families that aren't missing (RFC 3779 2.2.3)
abbrev pub addresses : FamilyChoices → Output
addresses x = record {
  trees = λ m. FamiliesTrees m x;
  writes = λ m. WritesFamilies m x;
  spelled = λ m. families_spelled m x;
  one_text = λ m. families_one m x;
}

-- ASIdentifiers (RFC 3779 3.2.3)
abbrev pub asns : Choice → Output
asns choice = record {
  trees = λ m. numbers.AreAsResources choice;
  writes = λ m. numbers.WritesAsResources m choice;
  spelled = λ m. numbers.resources_spelled m choice;
  one_text = λ m. numbers.resources_one m choice;
}
