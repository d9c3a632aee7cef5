-- Where lack of memory is told, the tests that take none are passed.
use Rattle.std.proofs.Common.{◌≡◌, ◌≢◌, ℕ, List, Option, Some, None, Result, Ok, Err, sym, ◌∙◌, subst}
use Rattle.std.specs.Prelude.{IfErr, IfOk, IsErr, IsErrAnd}
use Rattle.certs_x509.specs.declared.errors.verification.VerificationError.{VerificationError}
use Rattle.certs_x509.specs.declared.errors.verification.VerificationError.TheVariants as error
use Rattle.certs_verify.specs.certs_extension.declared.forms.VerificationTest.{VerificationTest}
use Rattle.certs_verify.specs.certs_extension.Calls.{Fault, inspected, verified, wants_memory}
use Rattle.certs_verify.specs.certs_extension.Cert.{CertValue}
use Rattle.certs_verify.specs.certs_extension.Verified.{IsSignedAt}
use Rattle.certs_verify.specs.certs_basics.Lists.{Each}
use Rattle.certs_verify.specs.certs_basics.Verdicts.{Verdicts}
use Rattle.certs_verify.specs.Answers.{Answers, Fails, MemoryAfter, fault_of}
use Rattle.certs_verify.proofs.TestChains.{none_fails}

-- What holds anyway holds where memory is lacking, and where nothing is.
pub memory_where : {A : Type 0} (P : Type 0) (r : Result A VerificationError) → P → IfErr r (MemoryAfter P)
memory_where P (Ok x) p = tt
memory_where P (Err e) p = λ m. p

pub signed_where : {A : Type 0} (P : Type 0) (r : Result A VerificationError) → P → IfOk r (λ x. P)
signed_where P (Ok x) p = p
signed_where P (Err e) p = tt

-- An error that isn't lack of memory isn't that where it was handed on.
pub other_handed_on : {A : Type 0} (P : Type 0) (e : VerificationError) (r : Result A VerificationError)
    → IsErr r × IsErrAnd r (λ x. x ≡ e) → e ≢ error.Memory → IfErr r (MemoryAfter P)
other_handed_on P e (Ok x) a n = absurd a.1
other_handed_on P e (Err x) a n = λ m. absurd (n (sym a.1 ∙ m))

-- All tests are passed, and then some of them are asked again with what takes memory: only that can fail.
fault_after : (P : VerificationTest → Type 0) (ts again : List VerificationTest) (o : Option Fault) → Each P again → Fails P again o → Fails P ts o
fault_after P ts again None all f = absurd f
fault_after P ts again (Some (inspected t)) all f = absurd f
fault_after P ts again (Some (verified t)) all f = absurd (none_fails P again t all f)
fault_after P ts again (Some wants_memory) all f = tt

pub answers_after : {A : Type 0} (P : VerificationTest → Type 0) (ts again : List VerificationTest) (r : Result A VerificationError)
    → Each P ts → Each P again → Answers P again r → Answers P ts r
answers_after P ts again (Ok x) all these a = all
answers_after P ts again (Err e) all these a = fault_after P ts again (fault_of e) these a

-- Below an issuer that is given as a certificate.
pub signed_below : (good : Verdicts) (now : ℕ) (given issuer c : CertValue) → given ≡ issuer → IsSignedAt good now given c → IsSignedAt good now issuer c
signed_below good now given issuer c e a = subst (λ (x : CertValue). IsSignedAt good now x c) e a
