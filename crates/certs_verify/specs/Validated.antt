-- What validation answers: the inspection of a role, then a verification.
use Rattle.std.specs.Prelude.{ℕ, Bool, Option, Some, None, Result, Ok, Err}
use Rattle.certs_x509.specs.declared.errors.validation.ValidationError.{ValidationError}
use Rattle.certs_x509.specs.declared.errors.validation.ValidationError.TheVariants as error
use Rattle.certs_verify.specs.certs_extension.declared.forms.InspectionError.{InspectionError}
use Rattle.certs_verify.specs.certs_extension.declared.forms.Role.{Role}
use Rattle.certs_verify.specs.certs_extension.declared.forms.Role.TheVariants.{Router}
use Rattle.certs_verify.specs.certs_extension.Calls.{Fault, inspected, verified, wants_memory, RefusedValue}
use Rattle.certs_verify.specs.certs_extension.Cert.{CertValue}
use Rattle.certs_verify.specs.certs_extension.Kinds.{Kind}
use Rattle.certs_verify.specs.certs_extension.Profiles.{Profile, FailsFirst}
use Rattle.certs_verify.specs.certs_extension.Verified.{HolderValue, PassesAt, held_by, router_tests}
use Rattle.certs_verify.specs.certs_basics.HandedIn.{Digests}
use Rattle.certs_verify.specs.certs_basics.Lists.{Each, FirstFailing}
use Rattle.certs_verify.specs.certs_basics.Verdicts.{Verdicts}
use Rattle.certs_verify.specs.declared.refused.Refused.{Refused}
use Rattle.certs_verify.specs.Answers.{MemoryAfter, fault_of}
use Rattle.certs_verify.specs.Holders.{ResourceCertValue}
use Rattle.certs_verify.specs.Words.{RefusedBy, TellsOutside}

-- What an inspection answers.
abbrev pub Inspects : Digests → Bool → Role → CertValue → Result (Unit {0}) InspectionError → Type 0
Inspects d strict role c (Ok x) = Profile d strict role c
Inspects d strict role c (Err t) = FailsFirst d strict role c t

-- The test that an error tells, or lack of memory.
abbrev pub cause_of : ValidationError → Option Fault
cause_of (error.Inspection t) = Some (inspected t)
cause_of (error.Verification e) = fault_of e

-- Lack of memory is told only of a certificate that has the form of its role, and where that holds: what is tested then
-- before memory is first wanted.
abbrev pub MemoryAfterForm : Digests → Bool → Role → CertValue → Type 0 → ValidationError → Type 0
MemoryAfterForm d strict role c passed (error.Inspection t) = Unit {0}
MemoryAfterForm d strict role c passed (error.Verification e) =
    MemoryAfter (Profile d strict role c × passed) e

-- The answer is as P says, with the fault that the error tells.
abbrev pub MeetsValid : (Result HolderValue RefusedValue → Type 0)
    → Result ResourceCertValue (Refused ValidationError) → Type 0
MeetsValid P (Ok r) = P (Ok r.holder)
MeetsValid P (Err r) = RefusedBy P r.cert (cause_of r.error)

-- Where numbers are claimed that the issuer doesn't hold, the error has just these.
abbrev pub TellsNumbers : CertValue → (Kind → ℕ → Type 0) → ValidationError → Type 0
TellsNumbers c held (error.Inspection t) = Unit {0}
TellsNumbers c held (error.Verification e) = TellsOutside c held e

-- Accepted as a router's certificate, or the first test that fails.
abbrev pub FailsRouter : Digests → Verdicts → Bool → ℕ → HolderValue → CertValue → Option Fault
    → Type 0
FailsRouter d good strict now issuer c None = ⊥
FailsRouter d good strict now issuer c (Some (inspected t)) = FailsFirst d strict Router c t
FailsRouter d good strict now issuer c (Some (verified t)) =
    Profile d strict Router c
    × FirstFailing (PassesAt good now issuer.cert (held_by issuer) c) router_tests t
FailsRouter d good strict now issuer c (Some wants_memory) = Unit {0}

abbrev pub ValidatesRouter : Digests → Verdicts → Bool → ℕ → HolderValue → CertValue
    → Result (Unit {0}) ValidationError → Type 0
ValidatesRouter d good strict now issuer c (Ok x) =
    Profile d strict Router c × Each (PassesAt good now issuer.cert (held_by issuer) c) router_tests
ValidatesRouter d good strict now issuer c (Err e) =
    FailsRouter d good strict now issuer c (cause_of e)
