-- That what is built of a certificate's fields is read again as these fields (RFC 5280 4.1, RFC 6487 4).
use Rattle.std.specs.Prelude.{◌≡◌, ◌≢◌, ◌⊎◌, ℕ, List, IfSome}
use Rattle.certs.specs.bcder_tree.declared.mode.Mode.TheVariants.{Der}
use Rattle.certs.specs.bcder_octets.BitContents.{IsPadded, padded_in}
use Rattle.certs.specs.bcder_content.Texts.{SpellsOf}
use Rattle.certs.specs.certs_basics.Basics.{IsSmallEnough, IsTwentyLong}
use Rattle.certs.specs.certs_basics.Keys.{HasEncoding}
use Rattle.certs.specs.certs_key.Cleared.{key_again}
use Rattle.certs.specs.certs_extension.CertAccess.{AccessValue}
use Rattle.certs.specs.certs_extension.Purposes.{AreKeyPurposes}
use Rattle.certs_cert.specs.Whole.{signed_of}
use Rattle.certs.specs.certs_x509.Signed.{SignedDataValue, signed, signed_fields}
use Rattle.certs.specs.certs_extension.Cert.{CertValue, TbsValue}
use Rattle.certs.specs.resources_ip.Written.{FitsChoice}
use Rattle.certs.specs.resources_ip_prefix.declared.addr.AddressFamily.TheVariants.{Ipv4, Ipv6}
use Rattle.certs.specs.certs_extension.CertText.{CertText, IsTbs, SpellsCert}
use Rattle.certs.specs.resources_as.Written.{HasMaximal}
use Rattle.certs.specs.resources_chain.declared.choice.ResourcesChoice.TheVariants.{Missing}
use Rattle.resources_ip.specs.WholeSets.{ListsWhole}
use Rattle.certs_name.specs.Named.{IsNamed}
use Rattle.certs_basics.specs.Uris.{IsHttps, IsRsync}
use Rattle.certs.specs.Tbs.{WritesTbs}

-- The URIs are such (RFC 6487 4.8.8, RFC 8182 3.2).
pub record AreAccessUris (a : AccessValue) : Type 0 where
  pub repository : IfSome a.repository IsRsync
  pub manifest : IfSome a.manifest IsRsync
  pub object : IfSome a.object IsRsync
  pub notify : IfSome a.notify IsHttps

-- What the types of fields promise of their values.
pub record IsLawful (c : TbsValue) : Type 0 where
  pub serial : IsSmallEnough c.serial
  pub issuer : IsNamed c.issuer
  pub subject : IsNamed c.subject
  pub key : HasEncoding c.key
  pub subject_key : IsTwentyLong c.subject_key_identifier
  pub authority_key : IfSome c.authority_key_identifier IsTwentyLong
  pub purposes : IfSome c.extended_key_usage AreKeyPurposes
  pub crl_uri : IfSome c.crl_uri IsRsync
  pub ca_issuer : IfSome c.ca_issuer IsRsync
  pub access : AreAccessUris c.access
  pub v4 : ListsWhole c.v4 → FitsChoice Ipv4 c.v4
  pub v6 : FitsChoice Ipv6 c.v6
  pub asn : HasMaximal c.asn

-- Some kind of resources is there, IPv4 ones over whole addresses (RFC 6487 4.8.10, 4.8.11; RFC 3779 2.2.3).
pub record IsReadable (c : TbsValue) : Type 0 where
  pub some : (c.v4 ≢ Missing) ⊎ ((c.v6 ≢ Missing) ⊎ (c.asn ≢ Missing))
  pub whole : ListsWhole c.v4

-- The fields as they are read again: the unused bits of the key, if it has some, are zero, as DER has them (X.690 11.2.1).
abbrev pub fields_again : TbsValue → TbsValue
fields_again c = record c { key = key_again Der c.key }

-- They are the same fields, where these bits are zero, as in the keys of signers and in those that are read in DER.
abbrev pub FieldsStay : Type 0
FieldsStay = (c : TbsValue) → IsPadded Der c.key.bits → fields_again c ≡ c

-- What is written of fields is read again as these fields.
abbrev pub FieldsAreRead : Type 0
FieldsAreRead =
    (c : TbsValue) (text : List ℕ) → IsLawful c → IsReadable c → WritesTbs c text
    → SpellsOf Der (IsTbs Der) text (fields_again c)

-- A certificate is built of the fields: what was signed is what is written of them in DER, and the octets are what is written
-- of the certificate in DER (RFC 5280 4.1.1).
pub record IsBuilt (s : SignedDataValue) (c : TbsValue) (text : List ℕ) : Type 0 where
  pub message : WritesTbs c s.message.octets
  pub written : signed.writes (signed_fields s) Der text

-- The certificate with these fields, the same signed octets, which stand in DER, and algorithm, and the same signature, whose
-- unused bits, if it has some, are zero, as DER has them (X.690 11.2.1).
abbrev pub as_read : SignedDataValue → TbsValue → CertValue
as_read s c = record {
  signed = record {
    message = s.message.octets;
    has_null = s.signature.algorithm;
    signature = (padded_in Der s.signature.bits).octets;
    unused = s.signature.bits.unused;
    mode = Der;
  };
  tbs = c;
}

-- What is written of a certificate that is built is read again as this certificate.
abbrev pub BuiltIsRead : Type 0
BuiltIsRead =
    (s : SignedDataValue) (c : TbsValue) (text : List ℕ) → IsLawful c → IsReadable c
    → IsBuilt s c text → CertText text (as_read s (fields_again c))

-- It spells this certificate, and nothing stands after it.
abbrev pub BuiltIsSpelled : Type 0
BuiltIsSpelled =
    (s : SignedDataValue) (c : TbsValue) (text : List ℕ) → IsLawful c → IsReadable c
    → IsBuilt s c text → SpellsCert Der text (as_read s (fields_again c))

-- It is the certificate that was built, where what was signed stands in DER, and the unused bits of the signature are zero, as
-- where there are none (X.690 11.2.1).
abbrev pub ReadIsBuilt : Type 0
ReadIsBuilt = (s : SignedDataValue) (c : TbsValue) → s.message.mode ≡ Der
    → IsPadded Der s.signature.bits → as_read s c ≡ record { signed = signed_of s; tbs = c }

-- The fields of a certificate that is read are such, and the unused bits of its key are zero, so that they are read again as
-- they are, once they are written.
abbrev pub ReadIsReadable : Type 0
ReadIsReadable =
    (octets : List ℕ) (c : CertValue) → CertText octets c → IsReadable c.tbs
    × IsPadded Der c.tbs.key.bits

-- Octets are one certificate at most.
abbrev pub OctetsAreOneCert : Type 0
OctetsAreOneCert =
    (octets : List ℕ) (c d : CertValue) → CertText octets c → CertText octets d → c ≡ d
