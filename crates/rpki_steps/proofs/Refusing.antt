-- A refusal that is not for lack of memory tells a test.
use Rattle.std.proofs.Common.{◌≡◌, ◌↔◌, Bool, true, false, IsTrue, Some, Result, Ok, Err, refl, sym, subst}
use Rattle.certs_verify.specs.declared.refused.Refused.{Refused}
use Rattle.certs_verify.specs.Answers.{fault_of}
use Rattle.certs_verify.specs.Holders.{ResourceCertValue}
use Rattle.certs_verify.specs.Validated.{MeetsValid, cause_of}
use Rattle.certs_verify.specs.Words.{RefusedBy}
use Rattle.rpki_steps.specs.certs_x509.declared.errors.validation.ValidationError.{ValidationError}
use Rattle.rpki_steps.specs.certs_x509.declared.errors.validation.ValidationError.TheVariants as error
use Rattle.rpki_steps.specs.certs_x509.declared.errors.verification.VerificationError.{VerificationError}
use Rattle.rpki_steps.specs.certs_x509.declared.errors.verification.VerificationError.TheVariants as told
use Rattle.rpki_steps.specs.certs_extension.Calls.{RefusedValue, wants_memory}
use Rattle.rpki_steps.specs.certs_extension.Verified.{HolderValue}
use Rattle.rpki_rules.specs.Certs.{Cert}
use Rattle.rpki_standing.specs.Tests.{IsTest}
use Rattle.rpki_steps.specs.Accepted.{IsAcceptedOrRefused, IsRefusal}

-- The error of a refusal, where memory wasn't wanted.
pub refused_is : (v : Result ResourceCertValue (Refused ValidationError)) (cert : Cert) (e : ValidationError) (memory : Bool)
    → v ≡ Err (record { cert = cert; error = e }) → IsTrue memory ↔ (cause_of e ≡ Some wants_memory) → memory ≡ false → IsAcceptedOrRefused v (Err e)
refused_is v cert e memory is told f = subst (λ (r : Result ResourceCertValue (Refused ValidationError)). IsAcceptedOrRefused r (Err e)) (sym is) (refl, not_memory)
  where
    not_memory : cause_of e ≡ Some wants_memory → ⊥
    not_memory m = let t : memory ≡ true = told.1 m in absurd cc

module _ (P : Result HolderValue RefusedValue → Type 0) (given : Cert) where
  -- The error of a verification tells a test, where it tells something and that isn't lack of memory.
  tells_test : (e : VerificationError) → RefusedBy P given (fault_of e) → (fault_of e ≡ Some wants_memory → ⊥) → IsTest (fault_of e)
  tells_test told.MessageDigest h n = h
  tells_test told.SigningTime h n = h
  tells_test told.BadSignature h n = tt
  tells_test told.Memory h n = n refl
  tells_test told.NotYetValid h n = tt
  tells_test told.Expired h n = tt
  tells_test told.AuthorityKeyMissing h n = tt
  tells_test told.AuthorityKeyMismatch h n = tt
  tells_test told.AiaMissing h n = tt
  tells_test (told.Inherited kind) h n = tt
  tells_test (told.Overclaim numbers) h n = tt
  tells_test told.HashMismatch h n = h
  tells_test told.Uncovered h n = h
  tells_test told.Refused h n = h

  is_test : (e : ValidationError) → RefusedBy P given (cause_of e) → (cause_of e ≡ Some wants_memory → ⊥) → IsRefusal e
  is_test (error.Inspection t) h n = tt
  is_test (error.Verification e) h n = tells_test e h n

pub is_refusal : (P : Result HolderValue RefusedValue → Type 0) (v : Result ResourceCertValue (Refused ValidationError)) (e : ValidationError) → MeetsValid P v → IsAcceptedOrRefused v (Err e) → IsRefusal e
is_refusal P (Ok r) e m s = absurd s
is_refusal P (Err x) e m s = is_test P x.cert e (subst (λ (f : ValidationError). RefusedBy P x.cert (cause_of f)) (sym s.0) m) s.1
