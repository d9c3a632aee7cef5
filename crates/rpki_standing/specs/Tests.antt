-- What tests answer: all are passed, or the first that isn't.
use Rattle.std.specs.Prelude.{◌≡◌, List, Option, Some, None, Result, Ok, Err}
use Rattle.certs_verify.specs.certs_x509.declared.errors.verification.VerificationError.{VerificationError}
use Rattle.certs_verify.specs.Answers.{fault_of}
use Rattle.rpki_standing.specs.certs_basics.Lists.{Each, FirstFailing}
use Rattle.rpki_standing.specs.certs_extension.Calls.{Fault, inspected, verified, wants_memory}
use Rattle.rpki_standing.specs.certs_extension.declared.forms.VerificationTest.{VerificationTest}

-- The fault is a test of verification that fails.
abbrev pub IsTest : Option Fault → Type 0
IsTest None = ⊥
IsTest (Some (inspected t)) = ⊥
IsTest (Some (verified t)) = Unit {0}
IsTest (Some wants_memory) = ⊥

-- An answer, and the answer by the test that its error tells.
abbrev pub TellsTest : Result (Unit {0}) VerificationError
    → Result (Unit {0}) VerificationTest → Type 0
TellsTest (Ok x) (Ok y) = Unit {0}
TellsTest (Ok x) (Err t) = ⊥
TellsTest (Err e) (Ok y) = ⊥
TellsTest (Err e) (Err t) = fault_of e ≡ Some (verified t)

-- All tests are passed, or the error tells the first that isn't; `test_of` says which that is.
abbrev pub Tells : {A X E : Type 0} → (E → X) → (X → Type 0) → List X → Result A E → Type 0
Tells test_of P tests (Ok a) = Each P tests
Tells test_of P tests (Err e) = FirstFailing P tests (test_of e)
