-- What a refusal to write or to sign says of a certificate's fields.
use Rattle.std.specs.Prelude.{ℕ, List}
use Rattle.certs.specs.bcder_primitive.declared.written.error.EncodeError.{EncodeError}
use Rattle.certs.specs.certs_key.declared.signer.SigningError.{SigningError}
use Rattle.certs.specs.certs_key.Refusing.{NotWrittenIf, SigningRefusedIf}
use Rattle.certs.specs.certs_extension.Cert.{TbsValue}
use Rattle.certs.specs.Tbs.{WritesTbs}

-- Something can be written of the fields in DER (RFC 5280 4.1).
abbrev pub CanBeWritten : TbsValue → Type 0
CanBeWritten c = (text : List ℕ) × WritesTbs c text

-- Why nothing is written: nothing can be, or there was no memory for what can.
abbrev pub NotWritten : TbsValue → EncodeError → Type 0
NotWritten c = NotWrittenIf (CanBeWritten c) (CanBeWritten c → ⊥)

-- The fields can be written, but for `TooLong`, which no signer answers: the signer is asked after that, and memory too.
-- `refuses` says by which errors the signer refuses.
abbrev pub SigningRefused : {E : Type 0} → (refuses : SigningError E → Type 0) → TbsValue
    → SigningError E → Type 0
SigningRefused refuses c = SigningRefusedIf refuses (CanBeWritten c) (CanBeWritten c → ⊥)
