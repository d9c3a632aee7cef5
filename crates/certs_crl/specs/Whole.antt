-- Signed data as revocation lists have it, and the fields of a revocation list (RFC 5280 5.1.1).
use Rattle.std.specs.Prelude.{◌≡◌, Bool, List, ℕ}
use Rattle.certs_crl.specs.bcder_tree.declared.mode.Mode.{Mode}
use Rattle.certs_crl.specs.bcder_tree.Tree.{Trees}
use Rattle.certs_crl.specs.bcder_content.Grammar.{End, OctetsOf, Then}
use Rattle.certs_crl.specs.bcder_content.Texts.{Joins, NoOctets, SpellsOf, WithOctets}
use Rattle.certs_crl.specs.bcder_content.Words.{Kept}
use Rattle.certs_x509.specs.bcder_octets.Bits.{BitsValue}
use Rattle.certs_x509.specs.bcder_octets.BitContents.{IsBitString, bit_string_tag}
use Rattle.certs_crl.specs.certs_basics.Basics.{IsAlgorithm}
pub use Rattle.certs_x509.specs.Captured.{signed_of}
use Rattle.certs_x509.specs.certs_extension.CrlText.{CrlValue, IsTbsList, SpellsTbsList, TbsListValue, as_crl}

-- What is signed, with its octets, the algorithm, and the signature.
abbrev pub CrlFields : Type 0
CrlFields = (List ℕ × TbsListValue) × (Bool × (BitsValue × Unit {0}))

-- tbsCertList, signatureAlgorithm AlgorithmIdentifier, signatureValue BIT STRING, as values; both algorithms agree (RFC 5280 5.1.1).
pub record AreCrl (m : Mode) (ts : Trees) (c : CrlValue) : Type 0 where
  pub fields : CrlFields
  pub are : Then (Kept m (IsTbsList m)) (Then IsAlgorithm
      (Then (OctetsOf bit_string_tag (IsBitString m)) End)) ts fields
  pub says : c ≡ as_crl m fields
  pub agree : c.tbs.has_null ≡ c.signed.has_null

-- The fields by their octets.
pub record AreCrlOctets (m : Mode) (text : List ℕ) (c : CrlValue) : Type 0 where
  pub fields : CrlFields
  pub are : Joins (WithOctets (SpellsTbsList m)) (Joins (SpellsOf m IsAlgorithm)
      (Joins (SpellsOf m (OctetsOf bit_string_tag (IsBitString m))) NoOctets)) text fields
  pub says : c ≡ as_crl m fields
  pub agree : c.tbs.has_null ≡ c.signed.has_null
