-- Signed data as certificates have it, and the fields of a certificate (RFC 5280 4.1.1).
use Rattle.std.specs.Prelude.{◌≡◌, Bool, List, ℕ}
use Rattle.certs_cert.specs.bcder_tree.declared.mode.Mode.{Mode}
use Rattle.certs_cert.specs.bcder_tree.Tree.{Trees}
use Rattle.certs_cert.specs.bcder_content.Grammar.{End, OctetsOf, Then}
use Rattle.certs_cert.specs.bcder_content.Texts.{Joins, NoOctets, SpellsOf, WithOctets}
use Rattle.certs_cert.specs.bcder_content.Words.{Kept}
use Rattle.certs_cert.specs.bcder_octets.Bits.{BitsValue}
use Rattle.certs_cert.specs.bcder_octets.BitContents.{IsBitString, bit_string_tag}
use Rattle.certs_cert.specs.certs_basics.Basics.{IsAlgorithm}
pub use Rattle.certs_x509.specs.Captured.{signed_of}
use Rattle.certs_extension.specs.Cert.{CertValue, TbsValue}
use Rattle.certs_extension.specs.CertText.{IsTbs, SpellsTbs, as_cert}

-- What is signed, with its octets, the algorithm, and the signature.
abbrev pub CertFields : Type 0
CertFields = (List ℕ × TbsValue) × (Bool × (BitsValue × Unit {0}))

-- tbsCertificate, signatureAlgorithm AlgorithmIdentifier, signatureValue BIT STRING, as values.
pub record AreCert (m : Mode) (ts : Trees) (c : CertValue) : Type 0 where
  pub fields : CertFields
  pub are : Then (Kept m (IsTbs m)) (Then IsAlgorithm
      (Then (OctetsOf bit_string_tag (IsBitString m)) End)) ts fields
  pub says : c ≡ as_cert m fields

-- The fields by their octets.
pub record AreCertOctets (m : Mode) (text : List ℕ) (c : CertValue) : Type 0 where
  pub fields : CertFields
  pub are : Joins (WithOctets (SpellsTbs m)) (Joins (SpellsOf m IsAlgorithm)
      (Joins (SpellsOf m (OctetsOf bit_string_tag (IsBitString m))) NoOctets)) text fields
  pub says : c ≡ as_cert m fields
