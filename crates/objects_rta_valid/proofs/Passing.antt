-- Where a test fails first, not all are passed; so an answer shows whether all are.
use Rattle.std.proofs.Common.{◌≡◌, ◌↔◌, Bool, true, IsTrue, List, [], ◌∷◌, ◌++◌, Option, Some, None, Result, Ok, Err, sym, ◌∙◌, subst}
use Rattle.std.specs.Prelude.{◌≢◌, ℕ, IfErr, IsOk, is_ok}
use Rattle.certs_verify.specs.certs_x509.declared.errors.verification.VerificationError.{VerificationError}
use Rattle.certs_verify.specs.certs_x509.declared.errors.verification.VerificationError.TheVariants as error
use Rattle.certs_verify.specs.Answers.{Answers, Fails, fault_of}
use Rattle.certs_verify.specs.certs_basics.Lists.{Each, FirstFailing}
use Rattle.certs_verify.specs.certs_basics.Verdicts.{Verdicts}
use Rattle.certs_verify.specs.certs_extension.Calls.{Fault, inspected, verified, wants_memory}
use Rattle.certs_verify.specs.certs_extension.Cert.{CertValue}
use Rattle.certs_verify.specs.certs_extension.Verified.{IsSignedAt, IsSignedBy, PassesAt, issuer_claim, nothing}
use Rattle.certs_verify.specs.certs_extension.declared.forms.VerificationTest.{VerificationTest}
use Rattle.certs_verify.specs.certs_extension.declared.forms.VerificationTest.TheVariants as test
use Rattle.objects_rta_valid.specs.Certs.{IsCurrent}

passed_inside : {X : Type 0} (P : X → Type 0) (front : List X) (x : X) (behind : List X) → Each P (front ++ x ∷ behind) → P x
passed_inside P [] x behind all = all.0
passed_inside P (y ∷ front) x behind all = passed_inside P front x behind all.1

none_fails : {X : Type 0} (P : X → Type 0) (xs : List X) (x : X) → FirstFailing P xs x → Each P xs → ⊥
none_fails P xs x f all = f.fails (passed_inside P f.front x f.behind (subst (Each P) f.whole all))

-- An error whose fault is lack of memory is that of memory.
memory_of : (e : VerificationError) → fault_of e ≡ Some wants_memory → e ≡ error.Memory
memory_of error.MessageDigest h = absurd cc
memory_of error.SigningTime h = absurd cc
memory_of error.BadSignature h = absurd cc
memory_of error.Memory h = λ i. error.Memory
memory_of error.NotYetValid h = absurd cc
memory_of error.Expired h = absurd cc
memory_of error.AuthorityKeyMissing h = absurd cc
memory_of error.AuthorityKeyMismatch h = absurd cc
memory_of error.AiaMissing h = absurd cc
memory_of (error.Inherited kind) h = absurd cc
memory_of (error.Overclaim numbers) h = absurd cc
memory_of error.HashMismatch h = absurd cc
memory_of error.Uncovered h = absurd cc
memory_of error.Refused h = absurd cc

not_passed : (P : VerificationTest → Type 0) (ts : List VerificationTest) (o : Option Fault) → (o ≡ Some wants_memory → ⊥) → Fails P ts o → Each P ts → ⊥
not_passed P ts None n f all = f
not_passed P ts (Some (inspected t)) n f all = f
not_passed P ts (Some (verified t)) n f all = none_fails P ts t f all
not_passed P ts (Some wants_memory) n f all = n (λ i. Some wants_memory)

-- All tests are passed exactly where the answer is `Ok`, if memory isn't wanted.
pub passed_told : (P : VerificationTest → Type 0) (ts : List VerificationTest) (r : Result (Unit {0}) VerificationError) (answer : Bool)
    → answer ≡ is_ok r → Answers P ts r → IfErr r (λ e. e ≢ error.Memory) → IsTrue answer ↔ Each P ts
passed_told P ts (Ok x) answer is told n = (λ t. told, λ all. is)
passed_told P ts (Err e) answer is told n = (
  λ t. let wrong : true ≡ is_ok {T = Unit {0}} (Err e) = sym t ∙ is in absurd cc,
  λ all. absurd (not_passed P ts (fault_of e) (λ m. n (memory_of e m)) told all),
)

pub claimed_told : (good : Verdicts) (p c : CertValue) (r : Result (Unit {0}) VerificationError) (answer : Bool) → answer ≡ is_ok r
    → Answers (PassesAt good 0 p nothing c) issuer_claim r → IfErr r (λ e. e ≢ error.Memory)
    → IsTrue answer ↔ ((c.tbs.authority_key_identifier ≡ Some p.tbs.subject_key_identifier) × (c.tbs.ca_issuer ≡ None → ⊥))
claimed_told good p c r answer is told n =
    let h = passed_told (PassesAt good 0 p nothing c) issuer_claim r answer is told n in (
      λ t. let x = h.0 t in (x.1.0, x.1.1.0),
      λ s. h.1 (there s.0, (s.0, (s.1, tt))),
    )
  where
    there : c.tbs.authority_key_identifier ≡ Some p.tbs.subject_key_identifier → c.tbs.authority_key_identifier ≡ None → ⊥
    there s e = absurd cc

pub good_told : (good : Verdicts) (p c : CertValue) (r : Result (Unit {0}) VerificationError) (answer : Bool) → answer ≡ is_ok r
    → Answers (PassesAt good 0 p nothing c) (test.BadSignature ∷ []) r → IfErr r (λ e. e ≢ error.Memory) → IsTrue answer ↔ IsSignedBy good p.tbs.key c.signed
good_told good p c r answer is told n =
    let h = passed_told (PassesAt good 0 p nothing c) (test.BadSignature ∷ []) r answer is told n in
    (λ t. (h.0 t).0, λ s. h.1 (s, tt))

-- What is current, claims the issuer and has a good signature of it is signed by it.
pub signed_of : (good : Verdicts) (now : ℕ) (p c : CertValue) → IsCurrent now c
    → (c.tbs.authority_key_identifier ≡ Some p.tbs.subject_key_identifier) × (c.tbs.ca_issuer ≡ None → ⊥) → IsSignedBy good p.tbs.key c.signed → IsSignedAt good now p c
signed_of good now p c v s g = (v.0, (v.1, (there s.0, (s.0, (s.1, (g, tt))))))
  where
    there : c.tbs.authority_key_identifier ≡ Some p.tbs.subject_key_identifier → c.tbs.authority_key_identifier ≡ None → ⊥
    there s e = absurd cc

pub ok_told : {A E P : Type 0} (r : Result A E) (answer : Bool) → answer ≡ is_ok r → (IsOk r ↔ P) → (IsTrue answer ↔ P)
ok_told r answer e h = ((λ t. h.0 (sym e ∙ t)), (λ p. e ∙ h.1 p))
