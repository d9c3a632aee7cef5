-- Which error is answered for a cause.
use Rattle.certs_x509.specs.certs_basics.declared.time.error.ValidityError.{ValidityError}
use Rattle.certs_x509.specs.certs_basics.declared.time.error.ValidityError.TheVariants as validity
use Rattle.certs_x509.specs.declared.errors.verification.VerificationError.{VerificationError}
use Rattle.certs_x509.specs.declared.errors.verification.VerificationError.TheVariants.{NotYetValid, Expired}

-- Outside a validity: before it, or after it.
abbrev pub of_validity : ValidityError → VerificationError
of_validity validity.NotYetValid = NotYetValid
of_validity validity.Expired = Expired
