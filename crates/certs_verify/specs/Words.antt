-- What the calls answer that take a certificate: the words of their clauses.
use Rattle.std.specs.Prelude.{◌≡◌, ℕ, Option, Some, None, Result, Ok, Err}
use Rattle.certs_x509.specs.declared.errors.verification.Overclaimed.TheVariants as outside
use Rattle.certs_x509.specs.declared.errors.verification.VerificationError.{VerificationError}
use Rattle.certs_x509.specs.declared.errors.verification.VerificationError.TheVariants as error
use Rattle.certs_verify.specs.certs_extension.Calls.{Fault, inspected, verified, wants_memory, RefusedValue}
use Rattle.certs_verify.specs.certs_extension.Cert.{CertValue}
use Rattle.certs_verify.specs.certs_extension.Kinds.{Kind, Ipv4, Ipv6, As}
use Rattle.certs_verify.specs.certs_extension.Verified.{HolderValue, HoldsOwn, IsAnchorAt, PassesAt, anchor_tests, nothing}
use Rattle.certs_verify.specs.certs_basics.Lists.{FirstFailing}
use Rattle.certs_verify.specs.certs_basics.Verdicts.{Verdicts}
use Rattle.certs_verify.specs.resources_chain.Claims.{Unfit}
use Rattle.certs_verify.specs.declared.refused.Refused.{Refused}
use Rattle.certs_verify.specs.Answers.{fault_of}
use Rattle.certs_verify.specs.Holders.{ResourceCertValue}

-- Why a certificate isn't verified as an anchor, where its profile isn't looked at.
abbrev pub FailsVerifiedAnchor : Verdicts → ℕ → CertValue → Fault → Type 0
FailsVerifiedAnchor good now c (inspected t) = ⊥
FailsVerifiedAnchor good now c (verified t) =
    FirstFailing (PassesAt good now c nothing c) anchor_tests t
FailsVerifiedAnchor good now c wants_memory = Unit {0}

abbrev pub VerifiesAnchor : Verdicts → ℕ → CertValue → Result HolderValue RefusedValue → Type 0
VerifiesAnchor good now c (Ok h) = IsAnchorAt good now c × HoldsOwn c h
VerifiesAnchor good now c (Err r) = (r.cert ≡ c) × FailsVerifiedAnchor good now c r.fault

-- The answer is as P says, with the fault that the error tells; an error that tells none isn't answered.
abbrev pub RefusedBy : (Result HolderValue RefusedValue → Type 0) → CertValue → Option Fault
    → Type 0
RefusedBy P c None = ⊥
RefusedBy P c (Some fault) = P (Err (record { cert = c; fault = fault }))

abbrev pub Meets : (Result HolderValue RefusedValue → Type 0)
    → Result ResourceCertValue (Refused VerificationError) → Type 0
Meets P (Ok r) = P (Ok r.holder)
Meets P (Err r) = RefusedBy P r.cert (fault_of r.error)

-- Where numbers are claimed that the issuer doesn't hold, the error has just these.
abbrev pub TellsOutside : CertValue → (Kind → ℕ → Type 0) → VerificationError → Type 0
TellsOutside c held (error.Overclaim (outside.V4 numbers)) =
    Unfit c.tbs.overclaim c.tbs.v4 (held Ipv4) numbers.0
TellsOutside c held (error.Overclaim (outside.V6 numbers)) =
    Unfit c.tbs.overclaim c.tbs.v6 (held Ipv6) numbers.0
TellsOutside c held (error.Overclaim (outside.Asn numbers)) =
    Unfit c.tbs.overclaim c.tbs.asn (held As) numbers
TellsOutside c held error.NotYetValid = Unit {0}
TellsOutside c held error.Expired = Unit {0}
TellsOutside c held error.AuthorityKeyMissing = Unit {0}
TellsOutside c held error.AuthorityKeyMismatch = Unit {0}
TellsOutside c held error.AiaMissing = Unit {0}
TellsOutside c held error.BadSignature = Unit {0}
TellsOutside c held (error.Inherited kind) = Unit {0}
TellsOutside c held error.MessageDigest = Unit {0}
TellsOutside c held error.SigningTime = Unit {0}
TellsOutside c held error.HashMismatch = Unit {0}
TellsOutside c held error.Uncovered = Unit {0}
TellsOutside c held error.Refused = Unit {0}
TellsOutside c held error.Memory = Unit {0}
