-- What is written of a certificate, and why nothing is (RFC 5280 4.1.1).
use Rattle.std.specs.Prelude.{List, ℕ}
use Rattle.certs_cert.specs.bcder_tree.declared.mode.Mode.{Mode}
use Rattle.certs_extension.specs.bcder_primitive.declared.written.error.EncodeError.{EncodeError}
use Rattle.certs_x509.specs.Captured.{RefusesSigned, WritesSigned}
use Rattle.certs_extension.specs.Cert.{CertValue}

-- Certificate ::= SEQUENCE { tbsCertificate, signatureAlgorithm, signatureValue BIT STRING }: what was signed is written as
-- it stands (RFC 5280 4.1.1).
abbrev pub WritesCert : CertValue → Mode → List ℕ → Type 0
WritesCert c = WritesSigned c.signed

-- Why nothing is written of it in DER: what was signed stands in another mode; or it stands in DER, and a content would have
-- more than 2^32 - 1 octets; or memory was lacking for what can be written.
abbrev pub RefusesCert : CertValue → EncodeError → Type 0
RefusesCert c = RefusesSigned c.signed
