-- What was validated, together with its content or alone.
use Rattle.std.specs.Prelude.{Result, Ok, Err}
use Rattle.certs_verify.specs.certs_x509.declared.errors.validation.ValidationError.{ValidationError}
use Rattle.certs_verify.specs.Holders.{ResourceCertValue}

-- With a content; else the error.
abbrev pub joined : {A : Type 0} → A → Result ResourceCertValue ValidationError
    → Result (ResourceCertValue × A) ValidationError
joined content (Ok r) = Ok (r, content)
joined content (Err e) = Err e

-- With a content where a test after passed; else that test's error.
abbrev pub joined_if : {A : Type 0} → ResourceCertValue → A → Result (Unit {0}) ValidationError
    → Result (ResourceCertValue × A) ValidationError
joined_if r content (Ok x) = Ok (r, content)
joined_if r content (Err e) = Err e

-- Without the content.
abbrev pub parted : {A : Type 0} → Result (ResourceCertValue × A) ValidationError
    → Result ResourceCertValue ValidationError
parted (Ok p) = Ok p.0
parted (Err e) = Err e
