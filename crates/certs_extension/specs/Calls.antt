-- What the calls answer: the words of their clauses.
use Rattle.std.specs.Prelude.{◌≡◌, ℕ, Bool, List, Result, Ok, Err}
use Rattle.certs_extension.specs.bcder_source.Errors.{OnContent}
use Rattle.certs_extension.specs.bcder_source.declared.error.DecodeError.{DecodeError}
use Rattle.certs_extension.specs.declared.forms.Role.{Role}
use Rattle.certs_extension.specs.declared.forms.Role.TheVariants.{Ta}
use Rattle.certs_extension.specs.declared.forms.InspectionError.{InspectionError}
use Rattle.certs_extension.specs.declared.forms.VerificationTest.{VerificationTest}
use Rattle.certs_extension.specs.certs_basics.Lists.{FirstFailing}
use Rattle.certs_extension.specs.certs_basics.HandedIn.{Digests}
use Rattle.certs_extension.specs.certs_basics.Verdicts.{Verdicts}
use Rattle.certs_extension.specs.Cert.{CertValue}
use Rattle.certs_extension.specs.CertText.{CertText}
use Rattle.certs_extension.specs.Profiles.{Profile, FailsFirst}
use Rattle.certs_extension.specs.Verified.{HolderValue, PassesAt, anchor_tests, issued_tests, nothing, held_by, AcceptsAnchor, AcceptsIssued, IsIssuedAt, HoldsBelow}
use Rattle.certs_extension.specs.CrlText.{CrlValue, CrlText}

-- The certificate in front of the octets, or there is none.
abbrev pub DecodesCert : {E : Type 0} → List ℕ → Result CertValue (DecodeError E) → Type 0
DecodesCert octets (Ok c) = CertText octets c
DecodesCert octets (Err e) = OnContent e ((c : CertValue) → CertText octets c → ⊥)

abbrev pub DecodesCrl : {E : Type 0} → List ℕ → Result CrlValue (DecodeError E) → Type 0
DecodesCrl octets (Ok c) = CrlText octets c
DecodesCrl octets (Err e) = OnContent e ((c : CrlValue) → CrlText octets c → ⊥)

-- Why a certificate isn't accepted: the first test that it fails, or lack of memory.
pub data Fault : Type 0 where
  inspected : InspectionError → Fault
  verified : VerificationTest → Fault
  wants_memory : Fault

-- A refusal has the certificate, as it was.
pub record RefusedValue : Type 0 where
  pub cert : CertValue
  pub fault : Fault

abbrev pub FailsAnchor : Digests → Verdicts → Bool → ℕ → CertValue → Fault → Type 0
FailsAnchor d good strict now c (inspected t) = FailsFirst d strict Ta c t
FailsAnchor d good strict now c (verified t) =
    Profile d strict Ta c × FirstFailing (PassesAt good now c nothing c) anchor_tests t
FailsAnchor d good strict now c wants_memory = Unit {0}

abbrev pub ValidatesAnchor : Digests → Verdicts → Bool → ℕ → CertValue
    → Result HolderValue RefusedValue → Type 0
ValidatesAnchor d good strict now c (Ok h) = AcceptsAnchor d good strict now c h
ValidatesAnchor d good strict now c (Err r) = (r.cert ≡ c) × FailsAnchor d good strict now c r.fault

abbrev pub FailsIssued : Digests → Verdicts → Bool → Role → ℕ → HolderValue → CertValue → Fault
    → Type 0
FailsIssued d good strict role now issuer c (inspected t) = FailsFirst d strict role c t
FailsIssued d good strict role now issuer c (verified t) =
    Profile d strict role c
    × FirstFailing (PassesAt good now issuer.cert (held_by issuer) c) issued_tests t
FailsIssued d good strict role now issuer c wants_memory = Unit {0}

abbrev pub ValidatesIssued : Digests → Verdicts → Bool → Role → ℕ → HolderValue → CertValue
    → Result HolderValue RefusedValue → Type 0
ValidatesIssued d good strict role now issuer c (Ok h) =
    AcceptsIssued d good strict role now issuer c h
ValidatesIssued d good strict role now issuer c (Err r) =
    (r.cert ≡ c) × FailsIssued d good strict role now issuer c r.fault

-- Why a certificate isn't verified below an issuer, where its profile isn't looked at.
abbrev pub FailsVerified : Verdicts → ℕ → HolderValue → CertValue → Fault → Type 0
FailsVerified good now issuer c (inspected t) = ⊥
FailsVerified good now issuer c (verified t) =
    FirstFailing (PassesAt good now issuer.cert (held_by issuer) c) issued_tests t
FailsVerified good now issuer c wants_memory = Unit {0}

abbrev pub VerifiesIssued : Verdicts → ℕ → HolderValue → CertValue → Result HolderValue RefusedValue
    → Type 0
VerifiesIssued good now issuer c (Ok h) =
    IsIssuedAt good now issuer.cert (held_by issuer) c × HoldsBelow (held_by issuer) c h
VerifiesIssued good now issuer c (Err r) = (r.cert ≡ c) × FailsVerified good now issuer c r.fault
