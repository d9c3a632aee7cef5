-- What is written of what is signed of a revocation list: its fields in their order, and two extensions that aren't
-- critical, the issuer's key first (RFC 5280 5.1.2, 5.2; RFC 6487 5).
use Rattle.std.specs.Prelude.{◌≡◌, ◌≢◌, ◌⊎◌, ℕ, ◌^◌, false, List, []}
use Rattle.certs_crl.specs.bcder_tree.declared.mode.Mode.{Mode}
use Rattle.certs_crl.specs.bcder_tree.declared.mode.Mode.TheVariants.{Der}
use Rattle.certs_crl.specs.bcder_tree.Tags.{context, integer_tag, oid_tag, sequence_tag}
use Rattle.certs_crl.specs.bcder_tree.Strings.{octet_string_tag}
use Rattle.certs_x509.specs.bcder_primitive.Values.{AnyOctets}
use Rattle.certs_crl.specs.bcder_content.Kept.{CapturedValue}
use Rattle.certs_x509.specs.bcder_primitive.Encoded.{NoText, WritesBoth, WritesPlain, WritesWrapped}
use Rattle.certs_x509.specs.bcder_primitive.Integers.{WritesUnsigned}
use Rattle.certs_x509.specs.bcder_values.Captures.{CapturedText}
use Rattle.bcder.specs.bcder_octets.Segments.{WritesString}
use Rattle.bcder.specs.bcder_octets.Wrapping.{WritesAround}
use Rattle.certs_crl.specs.certs_basics.Basics.{IsTwentyLong}
use Rattle.certs_crl.specs.certs_basics.Identifiers as id
use Rattle.certs_key.specs.Algorithms.{x509_algorithm}
use Rattle.certs_name.specs.Named.{IsNamed}
use Rattle.certs_x509.specs.EntryForms.{WritesMoment, entry_list, serial}
use Rattle.certs_x509.specs.Listed.{SpellsEntries}
use Rattle.certs_x509.specs.certs_extension.CrlText.{CrlValue, RevokedValue, TbsListValue}
use Rattle.certs_x509.specs.bcder_octets.BitContents.{padded_in}
use Rattle.certs_x509.specs.bcder_primitive.declared.written.error.EncodeError.{EncodeError}
use Rattle.certs_x509.specs.Captured.{RefusesSigned, WritesSigned}
use Rattle.certs_x509.specs.Signed.{SignedDataValue}

-- Extension ::= SEQUENCE { extnID OBJECT IDENTIFIER, extnValue OCTET STRING }, without `critical`; the string is around the
-- value, a text of P (RFC 5280 4.2).
abbrev pub WritesExtension : Mode → List ℕ → (List ℕ → Type 0) → List ℕ → Type 0
WritesExtension m kind P =
    WritesWrapped m sequence_tag
    (WritesBoth (WritesPlain m oid_tag (λ octets. AnyOctets octets kind))
    (WritesAround m octet_string_tag P))

-- AuthorityKeyIdentifier ::= SEQUENCE { keyIdentifier [0] IMPLICIT KeyIdentifier }, in DER (RFC 5280 5.2.1)
abbrev pub WritesKey : List ℕ → List ℕ → Type 0
WritesKey key = WritesWrapped Der sequence_tag (WritesString Der (context 0) key)

-- CRLNumber ::= INTEGER, in DER (RFC 5280 5.2.3)
abbrev pub WritesCrlNumber : ℕ → List ℕ → Type 0
WritesCrlNumber number = serial.writes number Der

-- crlExtensions [0] EXPLICIT SEQUENCE OF Extension (RFC 5280 5.1.2.7)
abbrev pub WritesListExtensions : List ℕ → ℕ → Mode → List ℕ → Type 0
WritesListExtensions key number m =
    WritesWrapped m (context 0)
    (WritesWrapped m sequence_tag
    (WritesBoth (WritesExtension m id.authority_key_identifier (WritesKey key))
    (WritesExtension m id.crl_number (WritesCrlNumber number))))

-- The octets of a name, as they are kept (RFC 5280 5.1.2.3).
pub record WritesName (name : CapturedValue) (m : Mode) (text : List ℕ) : Type 0 where
  pub named : IsNamed name
  pub kept : CapturedText name m text

-- revokedCertificates SEQUENCE OF, by octets that spell the entries; nothing where there are none (RFC 5280 5.1.2.6).
pub record WritesEntries (all : List RevokedValue) (m : Mode) (text : List ℕ) : Type 0 where
  pub octets : CapturedValue
  pub spelled : SpellsEntries octets all
  pub kept : WritesWrapped m sequence_tag (CapturedText octets m) text

abbrev pub WritesRevoked : List RevokedValue → Mode → List ℕ → Type 0
WritesRevoked all m text = ((all ≡ []) × NoText text) ⊎ WritesEntries all m text

-- revokedCertificates SEQUENCE OF, of what the entries say, in DER; nothing where there are none (RFC 5280 5.1.2.6).
abbrev pub WritesListed : List RevokedValue → List ℕ → Type 0
WritesListed all text =
    ((all ≡ []) × NoText text)
    ⊎ ((all ≢ []) × WritesWrapped Der sequence_tag (entry_list.writes all Der) text)

-- TBSCertList ::= SEQUENCE { version INTEGER (1), signature AlgorithmIdentifier, issuer Name, thisUpdate Time, nextUpdate
-- Time, revokedCertificates OPTIONAL, crlExtensions [0] }, with a text of R for the entries (RFC 5280 5.1)
pub record WritesFields (R : List ℕ → Type 0) (c : TbsListValue) (m : Mode) (text : List ℕ)
    : Type 0 where
  pub long : IsTwentyLong c.authority_key_identifier
  pub fields : WritesWrapped m sequence_tag
      (WritesBoth (WritesPlain m integer_tag (WritesUnsigned (2 ^ 8) 1))
      (WritesBoth (x509_algorithm.writes c.has_null m)
      (WritesBoth (WritesName c.issuer m)
      (WritesBoth (WritesMoment c.this_update m)
      (WritesBoth (WritesMoment c.next_update m)
      (WritesBoth R
      (WritesListExtensions c.authority_key_identifier c.number m))))))) text

-- With octets of the entries as they stood.
abbrev pub WritesTbsList : TbsListValue → Mode → List ℕ → Type 0
WritesTbsList c m = WritesFields (WritesRevoked c.revoked m) c m

-- In DER, with the entries by what they say.
abbrev pub WritesInDer : TbsListValue → List ℕ → Type 0
WritesInDer c = WritesFields (WritesListed c.revoked) c Der

-- The fields as they are read again in that mode: the name's octets stand in it.
abbrev pub read_in : Mode → TbsListValue → TbsListValue
read_in m c = record c { issuer = record { mode = m; octets = c.issuer.octets } }

-- CertificateList ::= SEQUENCE { tbsCertList, signatureAlgorithm, signatureValue BIT STRING }: what was signed is written as
-- it stands (RFC 5280 5.1.1).
abbrev pub WritesCrl : CrlValue → Mode → List ℕ → Type 0
WritesCrl c = WritesSigned c.signed

-- Why nothing is written of it in DER: what was signed stands in another mode; or it stands in DER, and a content would have
-- more than 2^32 - 1 octets; or memory was lacking for what can be written.
abbrev pub RefusesCrl : CrlValue → EncodeError → Type 0
RefusesCrl c = RefusesSigned c.signed

-- The list as it is read again: with the signature's octets as DER has them, where unused bits are zero (X.690 11.2.1), and
-- no serial numbers kept aside.
abbrev pub padded_again : CrlValue → SignedDataValue → CrlValue
padded_again c value = record {
  signed = record c.signed { signature = (padded_in Der value.signature.bits).octets };
  tbs = c.tbs;
  caches = false;
}
