-- What a refusal says of what was to be written, and signed, where `can` says that it can be written, and `cannot` that it
-- can't.
use Rattle.certs_key.specs.bcder_primitive.declared.written.error.EncodeError.{EncodeError}
use Rattle.certs_key.specs.bcder_primitive.declared.written.error.EncodeError.TheVariants as causes
use Rattle.certs_key.specs.declared.signer.SigningError.{SigningError}
use Rattle.certs_key.specs.declared.signer.SigningError.TheVariants as errors

-- A refusal to write: nothing can be written, or memory was lacking for what can.
abbrev pub NotWrittenIf : (can cannot : Type 0) → EncodeError → Type 0
NotWrittenIf can cannot causes.CerUnsupported = cannot
NotWrittenIf can cannot causes.TooLong = cannot
NotWrittenIf can cannot causes.Write = ⊥
NotWrittenIf can cannot causes.Memory = can

-- A refusal to sign: nothing can be written (`TooLong`, which no signer answers), or the signer refused what can be, by an
-- error of its own, or memory was lacking for it, to the signer or here. `refuses` says by which errors the signer refuses.
abbrev pub SigningRefusedIf : {E : Type 0} → (refuses : SigningError E → Type 0)
    → (can cannot : Type 0) → SigningError E → Type 0
SigningRefusedIf refuses can cannot errors.KeyNotFound = can × refuses errors.KeyNotFound
SigningRefusedIf refuses can cannot errors.IncompatibleKey = can × refuses errors.IncompatibleKey
SigningRefusedIf refuses can cannot (errors.Signer e) = can × refuses (errors.Signer e)
SigningRefusedIf refuses can cannot errors.TooLong = cannot
SigningRefusedIf refuses can cannot errors.Memory = can
