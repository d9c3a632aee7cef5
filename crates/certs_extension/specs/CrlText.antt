-- Which octets are a certificate revocation list (RFC 5280 5, RFC 6487 5).
use Rattle.std.specs.Prelude.{◌≡◌, ℕ, ◌<◌, Bool, false, List, [], Option, Some, None, length}
use Rattle.certs_extension.specs.bcder_tree.declared.mode.Mode.{Mode}
use Rattle.certs_extension.specs.bcder_tree.declared.mode.Mode.TheVariants.{Der}
use Rattle.certs_extension.specs.bcder_tree.Tags.{context, sequence_tag}
use Rattle.certs_extension.specs.bcder_tree.Tree.{Tree, Trees}
use Rattle.certs_extension.specs.bcder_content.Grammar.{Inside, OctetsOf, As, Then, Opt, End, Many}
use Rattle.certs_extension.specs.bcder_content.Kept.{CapturedValue}
use Rattle.certs_extension.specs.bcder_octets.Bits.{BitsValue}
use Rattle.certs_extension.specs.bcder_octets.BitContents.{IsBitString, bit_string_tag}
use Rattle.certs_extension.specs.certs_basics.Lists.{Mem}
use Rattle.certs_extension.specs.bcder_content.Words.{Gathers, Kept}
use Rattle.certs_extension.specs.bcder_content.Texts.{SpellsOf, InOrder, Wraps, Joins, InFront}
use Rattle.certs_extension.specs.certs_basics.Basics.{IsSerial, IsAlgorithm}
use Rattle.certs_basics.specs.Forms.{IsTime}
use Rattle.certs_extension.specs.certs_basics.Names.{IsKeptName, SpellsName}
use Rattle.certs_extension.specs.Extensions.{Extension, IsExtension, May, of_kind, IsOptional, IsAuthorityKeyIdentifier}
use Rattle.certs_extension.specs.Cert.{SignedValue}
use Rattle.certs_extension.specs.CertText.{IsVersion, SpellsSigned, as_signed}
use Rattle.certs_extension.specs.certs_basics.Identifiers as id

-- A serial number, and when it was revoked.
pub record RevokedValue : Type 0 where
  pub serial : ℕ
  pub time : ℕ

-- What is signed of a list.
pub record TbsListValue : Type 0 where
  pub has_null : Bool
  pub issuer : CapturedValue
  pub this_update : ℕ
  pub next_update : ℕ
  pub revoked : List RevokedValue
  pub authority_key_identifier : List ℕ
  pub number : ℕ

-- A list, and whether its serial numbers are kept aside, sorted, of which octets say nothing.
pub record CrlValue : Type 0 where
  pub signed : SignedValue
  pub tbs : TbsListValue
  pub caches : Bool

-- SEQUENCE { userCertificate CertificateSerialNumber, revocationDate Time } (RFC 5280 5.1.2.6)
abbrev pub as_revoked : ℕ × (ℕ × Unit {0}) → RevokedValue
as_revoked x = record { serial = x.0; time = x.1.0 }

abbrev pub IsRevoked : Tree → RevokedValue → Type 0
IsRevoked = As (Inside sequence_tag (Then IsSerial (Then IsTime End))) as_revoked

abbrev pub AreRevoked : Tree → List RevokedValue → Type 0
AreRevoked = Inside sequence_tag (Many IsRevoked)

-- No entries where the list is absent.
abbrev pub entries : Option (List RevokedValue) → List RevokedValue
entries None = []
entries (Some all) = all

-- Authority key identifier and CRL number, once each, in any order, critical or not, and no other (RFC 6487 5).
pub record HasListExtensions (all : List Extension) (c : TbsListValue) : Type 0 where
  pub count : length all ≡ 2
  pub authority_key_identifier : IsOptional May IsAuthorityKeyIdentifier
      (of_kind id.authority_key_identifier all) (Some c.authority_key_identifier)
  pub number : IsOptional May IsSerial (of_kind id.crl_number all) (Some c.number)

-- TBSCertList ::= SEQUENCE { version INTEGER (1), signature AlgorithmIdentifier, issuer Name, thisUpdate Time, nextUpdate Time,
--   revokedCertificates OPTIONAL, crlExtensions [0] EXPLICIT SEQUENCE OF Extension } (RFC 5280 5.1.2)
abbrev pub ListFields : Type 0
ListFields = Unit {0} × (Bool × (CapturedValue
    × (ℕ × (ℕ × (Option (List RevokedValue) × ((List Extension × Unit {0}) × Unit {0}))))))

abbrev pub IsTbsListBody : Mode → Trees → ListFields → Type 0
IsTbsListBody m =
    Then (IsVersion 1)
    (Then IsAlgorithm
    (Then (IsKeptName m)
    (Then IsTime
    (Then IsTime
    (Opt sequence_tag AreRevoked
    (Then (Inside (context 0) (Then (Inside sequence_tag
    (Gathers (IsExtension m) (λ all same. all ≡ same))) End))
    End))))))

pub record SaysList (f : ListFields) (c : TbsListValue) : Type 0 where
  pub has_null : c.has_null ≡ f.1.0
  pub issuer : c.issuer ≡ f.1.1.0
  pub this_update : c.this_update ≡ f.1.1.1.0
  pub next_update : c.next_update ≡ f.1.1.1.1.0
  pub revoked : c.revoked ≡ entries f.1.1.1.1.1.0
  pub extensions : HasListExtensions f.1.1.1.1.1.1.0.0 c

pub record IsTbsList (m : Mode) (t : Tree) (c : TbsListValue) : Type 0 where
  pub fields : ListFields
  pub is : Inside sequence_tag (IsTbsListBody m) t fields
  pub says : SaysList fields c

-- CertificateList ::= SEQUENCE { tbsCertList, signatureAlgorithm, signatureValue BIT STRING }; both algorithms agree, NULL
-- included (RFC 5280 5.1.1). No serial numbers are kept aside of a list that is read.
abbrev pub as_crl : Mode → (List ℕ × TbsListValue) × (Bool × (BitsValue × Unit {0})) → CrlValue
as_crl m x = record { signed = as_signed m x; tbs = x.0.1; caches = false }

pub record IsCrl (m : Mode) (t : Tree) (c : CrlValue) : Type 0 where
  pub is : As (Inside sequence_tag (Then (Kept m (IsTbsList m))
      (Then IsAlgorithm (Then (OctetsOf bit_string_tag (IsBitString m)) End))))
      (as_crl m) t c
  pub agree : c.tbs.has_null ≡ c.signed.has_null

-- A list's fields by their octets: the issuer's name and the message are the very octets that stand there.
abbrev pub SpellsListFields : Mode → List ℕ → ListFields → Type 0
SpellsListFields m =
    Wraps m sequence_tag
    (Joins (SpellsOf m (IsVersion 1))
    (Joins (SpellsOf m IsAlgorithm)
    (Joins (SpellsName m)
    (InOrder m
    (Then IsTime
    (Then IsTime
    (Opt sequence_tag AreRevoked
    (Then (Inside (context 0) (Then (Inside sequence_tag
    (Gathers (IsExtension m) (λ all same. all ≡ same))) End))
    End))))))))

pub record SpellsTbsList (m : Mode) (text : List ℕ) (c : TbsListValue) : Type 0 where
  pub fields : ListFields
  pub is : SpellsListFields m text fields
  pub says : SaysList fields c

pub record SpellsCrl (m : Mode) (text : List ℕ) (c : CrlValue) : Type 0 where
  pub fields : (List ℕ × TbsListValue) × (Bool × (BitsValue × Unit {0}))
  pub is : SpellsSigned m (SpellsTbsList m) text fields
  pub says : c ≡ as_crl m fields
  pub agree : c.tbs.has_null ≡ c.signed.has_null

-- A list in DER stands in front of the octets.
abbrev pub CrlText : List ℕ → CrlValue → Type 0
CrlText = InFront (SpellsCrl Der)

-- The serial number is on the list.
pub record IsOn (c : CrlValue) (serial : ℕ) : Type 0 where
  pub entry : RevokedValue
  pub listed : Mem c.tbs.revoked entry
  pub same : entry.serial ≡ serial

-- The list is stale: its next update lies before the moment (RFC 5280 5.1.2.5).
abbrev pub IsStale : CrlValue → ℕ → Type 0
IsStale c now = c.tbs.next_update < now
