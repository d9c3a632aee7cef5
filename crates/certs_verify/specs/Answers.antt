-- What verification answers: the first test that fails, by the error that tells it.
use Rattle.std.specs.Prelude.{◌≡◌, ◌⊎◌, ◌+◌, ◌-◌, ◌^◌, ℕ, min, List, Option, Some, None, Result, Ok, Err}
use Rattle.certs_x509.specs.declared.errors.verification.ClaimedKind.{ClaimedKind}
use Rattle.certs_x509.specs.declared.errors.verification.ClaimedKind.TheVariants as claimed
use Rattle.certs_x509.specs.declared.errors.verification.Overclaimed.{Overclaimed}
use Rattle.certs_x509.specs.declared.errors.verification.Overclaimed.TheVariants as outside
use Rattle.certs_x509.specs.declared.errors.verification.VerificationError.{VerificationError}
use Rattle.certs_x509.specs.declared.errors.verification.VerificationError.TheVariants as error
use Rattle.certs_verify.specs.certs_extension.declared.forms.VerificationTest.{VerificationTest}
use Rattle.certs_verify.specs.certs_extension.declared.forms.VerificationTest.TheVariants as test
use Rattle.certs_verify.specs.certs_extension.Calls.{Fault, inspected, verified, wants_memory}
use Rattle.certs_verify.specs.certs_basics.Lists.{Each, FirstFailing}

-- The test of a kind that is inherited, and that is claimed and not held.
abbrev pub inherited : ClaimedKind → VerificationTest
inherited claimed.V4 = test.InheritedV4
inherited claimed.V6 = test.InheritedV6
inherited claimed.Asn = test.InheritedAs

abbrev pub overclaimed : Overclaimed → VerificationTest
overclaimed (outside.V4 numbers) = test.OverclaimV4
overclaimed (outside.V6 numbers) = test.OverclaimV6
overclaimed (outside.Asn numbers) = test.OverclaimAs

-- The test that an error tells, or lack of memory. Certificates have no other errors.
abbrev pub fault_of : VerificationError → Option Fault
fault_of error.NotYetValid = Some (verified test.NotYetValid)
fault_of error.Expired = Some (verified test.Expired)
fault_of error.AuthorityKeyMissing = Some (verified test.AuthorityKeyMissing)
fault_of error.AuthorityKeyMismatch = Some (verified test.AuthorityKeyMismatch)
fault_of error.AiaMissing = Some (verified test.AiaMissing)
fault_of error.BadSignature = Some (verified test.BadSignature)
fault_of (error.Inherited kind) = Some (verified (inherited kind))
fault_of (error.Overclaim numbers) = Some (verified (overclaimed numbers))
fault_of error.MessageDigest = None
fault_of error.SigningTime = None
fault_of error.HashMismatch = None
fault_of error.Uncovered = None
fault_of error.Refused = None
fault_of error.Memory = Some wants_memory

-- The fault is the first test of the list that isn't passed, or lack of memory, of which `MemoryAfter` says more.
abbrev pub Fails : (VerificationTest → Type 0) → List VerificationTest → Option Fault → Type 0
Fails P tests None = ⊥
Fails P tests (Some (inspected t)) = ⊥
Fails P tests (Some (verified t)) = FirstFailing P tests t
Fails P tests (Some wants_memory) = Unit {0}

-- All tests of the list are passed, or the error tells the first that isn't.
abbrev pub Answers : {A : Type 0} → (VerificationTest → Type 0) → List VerificationTest
    → Result A VerificationError → Type 0
Answers P tests (Ok x) = Each P tests
Answers P tests (Err e) = Fails P tests (fault_of e)

-- Lack of memory is told only where that holds: what is tested before memory is first wanted.
abbrev pub MemoryAfter : Type 0 → VerificationError → Type 0
MemoryAfter passed e = e ≡ error.Memory → passed

-- A verifier was asked once or not at all.
abbrev pub AsksOnce : ℕ → ℕ → Type 0
AsksOnce before after = (after ≡ before) ⊎ (after ≡ min (before + 1) (2 ^ 64 - 1))
