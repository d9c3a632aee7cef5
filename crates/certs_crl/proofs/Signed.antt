-- Where a list wasn't written, or not signed.
use Rattle.std.proofs.Common.{◌≢◌, ℕ, List, Result, Ok, Err, IfErr, refl}
use Rattle.certs_x509.specs.bcder_values.Writable.{Writable}
use Rattle.certs_x509.specs.bcder_primitive.declared.written.error.EncodeError.{EncodeError}
use Rattle.certs_x509.specs.bcder_primitive.declared.written.error.EncodeError.TheVariants as causes
use Rattle.certs_key.specs.declared.signer.SigningError.{SigningError}
use Rattle.certs_key.specs.declared.signer.SigningError.TheVariants as errors
use Rattle.certs_x509.specs.certs_extension.CrlText.{TbsListValue}
use Rattle.certs_x509.proofs.Few.{few_octets}
use Rattle.certs_crl.specs.Signing.{CanBeWritten, LacksText, NotWritten, SigningRefused}
use Rattle.certs_crl.specs.Written.{WritesInDer}

-- Why nothing was written, where the encoders write octets of P.
module _ (c : TbsListValue) (P : List ℕ → Type 0) (sound : (text : List ℕ) → P text → WritesInDer c text) (whole : (text : List ℕ) → WritesInDer c text → P text) where
  cannot : (Writable P → ⊥) → CanBeWritten c → ⊥
  cannot r w = r (record { text = w.0; is = whole w.0 w.1; counted = few_octets w.1.fields })

  why : (e : EncodeError) → LacksText P e → NotWritten c e
  why causes.CerUnsupported r = cannot r
  why causes.TooLong r = cannot r
  why causes.Write r = r
  why causes.Memory r = (r.0, sound r.0 r.1)

  pub not_written : {A : Type 0} (r : Result A EncodeError) → IfErr r (LacksText P) → IfErr r (NotWritten c)
  not_written (Ok x) h = tt
  not_written (Err e) h = why e h

-- Whatever the signer answers, the list can be written.
pub any_refused : {E : Type 0} (refuses : SigningError E → Type 0) {c : TbsListValue} (e : SigningError E) → e ≢ errors.TooLong → refuses e → CanBeWritten c → SigningRefused refuses c e
any_refused refuses errors.KeyNotFound n r w = (w, r)
any_refused refuses errors.IncompatibleKey n r w = (w, r)
any_refused refuses (errors.Signer e) n r w = (w, r)
any_refused refuses errors.TooLong n r w = absurd (n refl)
any_refused refuses errors.Memory n r w = w
