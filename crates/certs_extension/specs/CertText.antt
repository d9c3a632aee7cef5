-- Which octets are a certificate (RFC 5280 4.1, RFC 6487 4).
use Rattle.std.specs.Prelude.{◌≡◌, ◌≢◌, ◌⊎◌, ℕ, ◌^◌, Bool, false, List, [], ◌∷◌, Some, None}
use Rattle.certs_extension.specs.bcder_tree.declared.mode.Mode.{Mode}
use Rattle.certs_extension.specs.bcder_tree.declared.mode.Mode.TheVariants.{Der}
use Rattle.certs_extension.specs.bcder_tree.Tags.{context, integer_tag, sequence_tag}
use Rattle.certs_extension.specs.bcder_tree.Tree.{Tree, Trees}
use Rattle.certs_extension.specs.bcder_primitive.Values.{IsValue, IsUnsigned}
use Rattle.certs_extension.specs.bcder_content.Grammar.{Inside, OctetsOf, As, Then, End}
use Rattle.certs_extension.specs.bcder_content.Kept.{CapturedValue}
use Rattle.certs_extension.specs.bcder_octets.Bits.{BitsValue}
use Rattle.certs_extension.specs.bcder_octets.BitContents.{IsBitString, bit_string_tag}
use Rattle.certs_extension.specs.resources_chain.declared.claims.Overclaim.{Overclaim}
use Rattle.certs_extension.specs.resources_chain.declared.claims.Overclaim.TheVariants.{Refuse, Trim}
use Rattle.certs_extension.specs.resources_chain.declared.choice.ResourcesChoice.TheVariants.{Missing}
use Rattle.certs_extension.specs.resources_chain.Claims.{Choice}
use Rattle.certs_extension.specs.resources_as.Identifiers.{ip_octets, as_octets}
use Rattle.certs_extension.specs.resources_ip.Encodings.{IsIpAddrBlocks}
use Rattle.certs_extension.specs.resources_as.Encodings.{IsAsResources}
use Rattle.certs_extension.specs.certs_basics.Lists.{Mem, Each}
use Rattle.certs_extension.specs.bcder_content.Words.{Gathers, Kept}
use Rattle.certs_extension.specs.bcder_content.Texts.{ReadsFront, SpellsOf, WithOctets, Wraps, Joins, NoOctets, InFront}
use Rattle.certs_extension.specs.certs_basics.Basics.{IsSerial, IsAlgorithm}
use Rattle.certs_basics.specs.Forms.{IsValidity}
use Rattle.certs_extension.specs.certs_basics.Keys.{KeyValue, IsKey}
use Rattle.certs_extension.specs.certs_basics.Names.{IsKeptName, SpellsName}
use Rattle.certs_extension.specs.Extensions.{Extension, IsExtension, Must, MustNot, of_kind, IsOptional, IsBasicConstraints, IsSubjectKeyIdentifier, IsAuthorityKeyIdentifier, IsKeyUsage, IsExtendedKeyUsage, IsCrlDistribution, IsAuthorityAccess, IsPolicies}
use Rattle.certs_extension.specs.CertAccess.{AccessValue, IsSubjectAccess}
use Rattle.certs_extension.specs.Cert.{TbsValue, SignedValue, CertValue, no_access}
use Rattle.certs_extension.specs.certs_basics.Identifiers as id

-- The extensions that are known; all others are unknown, those for the other policy's resources too.
abbrev pub known : List (List ℕ)
known = id.basic_constraints ∷ id.subject_key_identifier ∷ id.authority_key_identifier
    ∷ id.key_usage ∷ id.extended_key_usage
    ∷ id.crl_distribution_points ∷ id.authority_info_access ∷ id.subject_info_access
    ∷ id.certificate_policies
    ∷ ip_octets Refuse ∷ as_octets Refuse ∷ ip_octets Trim ∷ as_octets Trim ∷ []

-- An unknown extension isn't critical; its octets aren't read (RFC 5280 4.2).
abbrev pub IsKnownOrSkipped : Extension → Type 0
IsKnownOrSkipped e = Mem known e.kind ⊎ ((Mem known e.kind → ⊥) × (e.critical ≡ false))

abbrev pub other : Overclaim → Overclaim
other Refuse = Trim
other Trim = Refuse

-- No extension, and both families are missing; or one, critical or not, that says them.
abbrev pub AreIpResources : List Extension → Choice → Choice → Type 0
AreIpResources [] v4 v6 = (v4 ≡ Missing) × (v6 ≡ Missing)
AreIpResources (e ∷ []) v4 v6 =
    ReadsFront (IsIpAddrBlocks Der) e.octets (record { v4 = v4; v6 = v6 })
AreIpResources (e ∷ f ∷ es) v4 v6 = ⊥

-- No extension, and AS numbers are missing; or one, critical or not, that says them.
abbrev pub AreAsResources : List Extension → Choice → Type 0
AreAsResources [] asn = asn ≡ Missing
AreAsResources (e ∷ []) asn = ReadsFront IsAsResources e.octets asn
AreAsResources (e ∷ f ∷ es) asn = ⊥

-- The resources stand in the extensions of the certificate's policy, none in those of the other, and one kind is there
-- (RFC 6487 4.8.10, 4.8.11, RFC 8360 4.2).
pub record HasResources (all : List Extension) (c : TbsValue) : Type 0 where
  pub ip : AreIpResources (of_kind (ip_octets c.overclaim) all) c.v4 c.v6
  pub asn : AreAsResources (of_kind (as_octets c.overclaim) all) c.asn
  pub no_other_ip : of_kind (ip_octets (other c.overclaim)) all ≡ []
  pub no_other_asn : of_kind (as_octets (other c.overclaim)) all ≡ []
  pub some : (of_kind (ip_octets c.overclaim) all ≢ []) ⊎ (of_kind (as_octets c.overclaim) all ≢ [])

-- No extension for access and no URIs, or one that says them.
abbrev pub IsAccess : List Extension → AccessValue → Type 0
IsAccess all a =
    (IsOptional MustNot IsSubjectAccess (of_kind id.subject_info_access all) None × (a ≡ no_access))
    ⊎ IsOptional MustNot IsSubjectAccess (of_kind id.subject_info_access all) (Some a)

-- All extensions: known ones at most once each, critical as they must be, and unknown ones not critical (RFC 6487 4.8).
pub record HasExtensions (all : List Extension) (c : TbsValue) : Type 0 where
  pub skipped : Each IsKnownOrSkipped all
  pub basic_constraints : IsOptional Must IsBasicConstraints
      (of_kind id.basic_constraints all) c.basic_ca
  pub subject_key_identifier : IsOptional MustNot IsSubjectKeyIdentifier
      (of_kind id.subject_key_identifier all) (Some c.subject_key_identifier)
  pub authority_key_identifier : IsOptional MustNot IsAuthorityKeyIdentifier
      (of_kind id.authority_key_identifier all) c.authority_key_identifier
  pub key_usage : IsOptional Must IsKeyUsage (of_kind id.key_usage all) (Some c.key_usage)
  pub extended_key_usage : IsOptional MustNot IsExtendedKeyUsage
      (of_kind id.extended_key_usage all) c.extended_key_usage
  pub crl_distribution : IsOptional MustNot IsCrlDistribution
      (of_kind id.crl_distribution_points all) c.crl_uri
  pub authority_access : IsOptional MustNot IsAuthorityAccess
      (of_kind id.authority_info_access all) c.ca_issuer
  pub subject_access : IsAccess all c.access
  pub policies : IsOptional Must IsPolicies (of_kind id.certificate_policies all) (Some c.overclaim)
  pub resources : HasResources all c

-- version [0] EXPLICIT INTEGER (2)
abbrev pub IsVersion : ℕ → Tree → Unit {0} → Type 0
IsVersion n = OctetsOf integer_tag (IsValue (IsUnsigned (2 ^ 8)) n)

-- TBSCertificate ::= SEQUENCE { version [0] EXPLICIT INTEGER (2), serialNumber, signature AlgorithmIdentifier, issuer Name,
--   validity, subject Name, subjectPublicKeyInfo, extensions [3] EXPLICIT SEQUENCE OF Extension } (RFC 5280 4.1.2, RFC 6487 4.1 to 4.8)
abbrev pub Fields : Type 0
Fields = (Unit {0} × Unit {0}) × (ℕ × (Bool × (CapturedValue
    × ((ℕ × (ℕ × Unit {0})) × (CapturedValue ×
    (KeyValue × ((List Extension × Unit {0}) × Unit {0})))))))

abbrev pub IsTbsBody : Mode → Trees → Fields → Type 0
IsTbsBody m =
    Then (Inside (context 0) (Then (IsVersion 2) End))
    (Then IsSerial
    (Then IsAlgorithm
    (Then (IsKeptName m)
    (Then IsValidity
    (Then (IsKeptName m)
    (Then (IsKey m)
    (Then (Inside (context 3) (Then (Inside sequence_tag
    (Gathers (IsExtension m) (λ all same. all ≡ same))) End))
    End)))))))

pub record SaysTbs (f : Fields) (c : TbsValue) : Type 0 where
  pub serial : c.serial ≡ f.1.0
  pub has_null : c.has_null ≡ f.1.1.0
  pub issuer : c.issuer ≡ f.1.1.1.0
  pub not_before : c.not_before ≡ f.1.1.1.1.0.0
  pub not_after : c.not_after ≡ f.1.1.1.1.0.1.0
  pub subject : c.subject ≡ f.1.1.1.1.1.0
  pub key : c.key ≡ f.1.1.1.1.1.1.0
  pub extensions : HasExtensions f.1.1.1.1.1.1.1.0.0 c

pub record IsTbs (m : Mode) (t : Tree) (c : TbsValue) : Type 0 where
  pub fields : Fields
  pub is : Inside sequence_tag (IsTbsBody m) t fields
  pub says : SaysTbs fields c

-- What is signed, with its octets, the algorithm, and the signature, in that mode (RFC 5280 4.1.1).
abbrev pub as_signed : {A : Type 0} → Mode
    → (List ℕ × A) × (Bool × (BitsValue × Unit {0})) → SignedValue
as_signed m x = record {
  message = x.0.0;
  has_null = x.1.0;
  signature = x.1.1.0.octets;
  unused = x.1.1.0.unused;
  mode = m;
}

abbrev pub as_cert : Mode → (List ℕ × TbsValue) × (Bool × (BitsValue × Unit {0})) → CertValue
as_cert m x = record { signed = as_signed m x; tbs = x.0.1 }

-- Certificate ::= SEQUENCE { tbsCertificate, signatureAlgorithm AlgorithmIdentifier, signatureValue BIT STRING }, as a value.
abbrev pub IsCert : Mode → Tree → CertValue → Type 0
IsCert m =
    As (Inside sequence_tag (Then (Kept m (IsTbs m))
    (Then IsAlgorithm (Then (OctetsOf bit_string_tag (IsBitString m)) End)))) (as_cert m)

-- A certificate's fields by their octets, from the outermost value down to what is kept: names and message are the very
-- octets that stand there, which in BER a value doesn't tell.
abbrev pub SpellsFields : Mode → List ℕ → Fields → Type 0
SpellsFields m =
    Wraps m sequence_tag
    (Joins (SpellsOf m (Inside (context 0) (Then (IsVersion 2) End)))
    (Joins (SpellsOf m IsSerial)
    (Joins (SpellsOf m IsAlgorithm)
    (Joins (SpellsName m)
    (Joins (SpellsOf m IsValidity)
    (Joins (SpellsName m)
    (Joins (SpellsOf m (IsKey m))
    (Joins (SpellsOf m (Inside (context 3) (Then
    (Inside sequence_tag (Gathers (IsExtension m) (λ all same. all ≡ same))) End)))
    NoOctets))))))))

pub record SpellsTbs (m : Mode) (text : List ℕ) (c : TbsValue) : Type 0 where
  pub fields : Fields
  pub is : SpellsFields m text fields
  pub says : SaysTbs fields c

-- What is signed, the algorithm and the signature.
abbrev pub SpellsSigned : {A : Type 0} → Mode → (List ℕ → A → Type 0) → List ℕ → (List ℕ × A)
    × (Bool × (BitsValue × Unit {0})) → Type 0
SpellsSigned m P = Wraps m sequence_tag (Joins (WithOctets P)
    (Joins (SpellsOf m IsAlgorithm) (Joins (SpellsOf m
    (OctetsOf bit_string_tag (IsBitString m))) NoOctets)))

pub record SpellsCert (m : Mode) (text : List ℕ) (c : CertValue) : Type 0 where
  pub fields : (List ℕ × TbsValue) × (Bool × (BitsValue × Unit {0}))
  pub is : SpellsSigned m (SpellsTbs m) text fields
  pub says : c ≡ as_cert m fields

-- A certificate in DER stands in front of the octets.
abbrev pub CertText : List ℕ → CertValue → Type 0
CertText = InFront (SpellsCert Der)
