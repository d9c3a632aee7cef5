-- What verification of a certificate answers, by the tests that its errors tell.
use Rattle.std.proofs.Common.{◌≡◌, ◌∙◌, true, List, [], ◌∷◌, ◌++◌, map, Option, Some, None, Result, Ok, Err, MatchResult, refl, sym, ap, subst}
use Rattle.std.proofs.lemmas.Result.{err_from_is_err_and}
use Rattle.std.specs.Prelude.{◌≢◌, IfErr, IsErrAnd}
use Rattle.certs_verify.specs.certs_x509.declared.errors.verification.VerificationError.{VerificationError}
use Rattle.certs_verify.specs.certs_x509.declared.errors.verification.VerificationError.TheVariants as error
use Rattle.certs_verify.specs.Answers.{Answers, Fails, fault_of}
use Rattle.certs_verify.specs.TestAnswers.{Answers as TestAnswers}
use Rattle.rpki_standing.specs.certs_basics.Lists.{Each, FirstFailing}
use Rattle.rpki_standing.specs.certs_extension.Calls.{Fault, inspected, verified, wants_memory}
use Rattle.rpki_standing.specs.certs_extension.declared.forms.InspectionError.{InspectionError}
use Rattle.rpki_standing.specs.certs_extension.declared.forms.Role.{Role}
use Rattle.rpki_standing.specs.certs_extension.declared.forms.VerificationTest.{VerificationTest}
use Rattle.rpki_standing.specs.certs_extension.declared.forms.VerificationTest.TheVariants as test
use Rattle.rpki_standing.specs.certs_extension.Profiles.{Profile, FailsFirst, tests}
use Rattle.rpki_standing.specs.certs_extension.Verified.{PassesAt, issuer_claim, nothing, validity}
use Rattle.rpki_rules.specs.Certs.{Cert}
use Rattle.rpki_rules.specs.declared.reason.certs.CertTest.TheVariants.{Inspection, Verification}
use Rattle.rpki_rules.specs.Reasons.{PassesCert, signature_tests}
use Rattle.rpki_rules.specs.declared.reason.certs.CertTest.{CertTest}
use Rattle.rpki_rules.specs.World.{World}
use Rattle.rpki_rules.proofs.Firsts.{each_join, map_each}
use Rattle.rpki_rules.proofs.FirstParts.{first_behind, first_in_front, first_map}
use Rattle.rpki_standing.specs.Tests.{IsTest, TellsTest}

-- An error whose fault is lack of memory is that of memory.
memory_of : (e : VerificationError) → fault_of e ≡ Some wants_memory → e ≡ error.Memory
memory_of error.MessageDigest h = absurd cc
memory_of error.SigningTime h = absurd cc
memory_of error.BadSignature h = absurd cc
memory_of error.Memory h = λ i. error.Memory
memory_of error.NotYetValid h = absurd cc
memory_of error.Expired h = absurd cc
memory_of error.AuthorityKeyMissing h = absurd cc
memory_of error.AuthorityKeyMismatch h = absurd cc
memory_of error.AiaMissing h = absurd cc
memory_of (error.Inherited kind) h = absurd cc
memory_of (error.Overclaim numbers) h = absurd cc
memory_of error.HashMismatch h = absurd cc
memory_of error.Uncovered h = absurd cc
memory_of error.Refused h = absurd cc

module _ (P : VerificationTest → Type 0) (ts : List VerificationTest) where
  fault_is_test : (o : Option Fault) → (o ≡ Some wants_memory → ⊥) → Fails P ts o → IsTest o
  fault_is_test None n f = f
  fault_is_test (Some (inspected t)) n f = f
  fault_is_test (Some (verified t)) n f = tt
  fault_is_test (Some wants_memory) n f = n refl

  -- Where no memory was wanted an error tells a test.
  pub is_test : (r : Result (Unit {0}) VerificationError) → Answers P ts r → IfErr r (λ e. e ≢ error.Memory) → IfErr r (λ e. IsTest (fault_of e))
  is_test (Ok x) told n = tt
  is_test (Err e) told n = fault_is_test (fault_of e) (λ m. n (memory_of e m)) told

  -- So the answer by that test says the same.
  pub test_answers : (r : Result (Unit {0}) VerificationError) (s : Result (Unit {0}) VerificationTest) → Answers P ts r → TellsTest r s → TestAnswers P ts s
  test_answers (Ok x) (Ok y) told same = told
  test_answers (Ok x) (Err t) told same = absurd same
  test_answers (Err e) (Ok y) told same = absurd same
  test_answers (Err e) (Err t) told same = subst (Fails P ts) same told

-- Validity, the claim to the issuer and the signature, one after the other.
module _ (P : VerificationTest → Type 0) where
  pub validity_fails : (t : VerificationTest) → FirstFailing P validity t → FirstFailing P signature_tests t
  validity_fails t f = first_in_front P validity (issuer_claim ++ test.BadSignature ∷ []) t f

  module _ (valid : Each P validity) where
    pub claim_fails : (t : VerificationTest) → FirstFailing P issuer_claim t → FirstFailing P signature_tests t
    claim_fails t f = first_behind P validity (issuer_claim ++ test.BadSignature ∷ []) t valid (first_in_front P issuer_claim (test.BadSignature ∷ []) t f)

    pub signature_told : Each P issuer_claim → (r : Result (Unit {0}) VerificationTest) → TestAnswers P (test.BadSignature ∷ []) r → TestAnswers P signature_tests r
    signature_told claimed (Ok x) told = each_join P validity (issuer_claim ++ test.BadSignature ∷ []) valid (each_join P issuer_claim (test.BadSignature ∷ []) claimed told)
    signature_told claimed (Err t) told =
        first_behind P validity (issuer_claim ++ test.BadSignature ∷ []) t valid (first_behind P issuer_claim (test.BadSignature ∷ []) t claimed told)

-- Tests behind others that are passed, told by a word of the whole.
pub told_by : {X Y : Type 0} (word : X → Y) (P : Y → Type 0) (front : List Y) (xs : List X) (s : Result (Unit {0}) X) (r : Result (Unit {0}) Y) → Each P front → TestAnswers (λ (x : X). P (word x)) xs s
    → MatchResult s (λ x. r ≡ Ok x) (λ e. IsErrAnd r (λ d. d ≡ word e)) → TestAnswers P (front ++ map word xs) r
told_by word P front xs (Ok x) r passed told same = subst (TestAnswers P (front ++ map word xs)) (sym same) (each_join P front (map word xs) passed (map_each word P xs told))
told_by {X} {Y} word P front xs (Err e) r passed told same =
    let p = err_from_is_err_and r same in
    subst (TestAnswers P (front ++ map word xs)) (sym (p.1 ∙ ap (λ (y : Y). Err y) p.2)) (first_behind P front (map word xs) (word e) passed (first_map word P xs e told))

-- A certificate's form, and then what its issuer and the moment say.
module _ (w : World) (role : Role) (others : List VerificationTest) (ca c : Cert) where
  abbrev Passed : CertTest → Type 0
  Passed t = PassesCert w role ca c t

  pub form_fails : (t : InspectionError) → FailsFirst w.digests true role c t → FirstFailing (PassesCert w role ca c) (map Inspection (tests role) ++ map Verification others) (Inspection t)
  form_fails t f = first_in_front Passed (map Inspection (tests role)) (map Verification others) (Inspection t) (first_map Inspection Passed (tests role) t f)

  pub cert_told : (s : Result (Unit {0}) VerificationTest) (r : Result (Unit {0}) CertTest) → Profile w.digests true role c → TestAnswers (PassesAt w.good w.moment ca nothing c) others s
      → MatchResult s (λ x. r ≡ Ok x) (λ e. IsErrAnd r (λ d. d ≡ Verification e)) → TestAnswers (PassesCert w role ca c) (map Inspection (tests role) ++ map Verification others) r
  cert_told s r form told same = told_by Verification Passed (map Inspection (tests role)) others s r (map_each Inspection Passed (tests role) form) told same
