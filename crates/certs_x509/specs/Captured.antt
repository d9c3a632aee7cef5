-- Signed data as certificates and revocation lists have it: what is written of it, and why nothing is (RFC 5280 4.1.1, 5.1.1).
use Rattle.std.specs.Prelude.{◌≡◌, ◌≢◌, List, ℕ}
use Rattle.certs_x509.specs.bcder_tree.declared.mode.Mode.{Mode}
use Rattle.certs_x509.specs.bcder_tree.declared.mode.Mode.TheVariants.{Der}
use Rattle.certs_x509.specs.bcder_primitive.declared.written.error.EncodeError.{EncodeError}
use Rattle.certs_x509.specs.bcder_primitive.declared.written.error.EncodeError.TheVariants as causes
use Rattle.certs_x509.specs.Signed.{SignedDataValue, signed, signed_fields}
use Rattle.certs_extension.specs.Cert.{SignedValue}

-- The octets that are signed with their mode, whether NULL stands in the outer algorithm, and the bits of the signature.
abbrev pub signed_of : SignedDataValue → SignedValue
signed_of s = record {
  message = s.message.octets;
  has_null = s.signature.algorithm;
  signature = s.signature.bits.octets;
  unused = s.signature.bits.unused;
  mode = s.message.mode;
}

-- SEQUENCE { what is signed, signatureAlgorithm, signatureValue BIT STRING }: what was signed is written as it stands.
pub record WritesSigned (s : SignedValue) (m : Mode) (text : List ℕ) : Type 0 where
  pub value : SignedDataValue
  pub same : signed_of value ≡ s
  pub text_is : signed.writes (signed_fields value) m text

-- Something can be written of it in DER.
abbrev pub CanBeCaptured : SignedValue → Type 0
CanBeCaptured s = (text : List ℕ) × WritesSigned s Der text

-- Why nothing is written of it in DER: what was signed stands in another mode; it stands in DER, and nothing can be written,
-- since a content would have more than 2^32 - 1 octets; or memory was lacking for what can be written.
abbrev pub RefusesSigned : SignedValue → EncodeError → Type 0
RefusesSigned s causes.CerUnsupported = s.mode ≢ Der
RefusesSigned s causes.TooLong = (s.mode ≡ Der) × (CanBeCaptured s → ⊥)
RefusesSigned s causes.Write = ⊥
RefusesSigned s causes.Memory = CanBeCaptured s
