-- When a signed object is accepted at a moment below an issuer, and what is answered where it isn't (RFC 6488 3).
use Rattle.std.specs.Prelude.{◌≡◌, ◌⊎◌, ℕ, Bool, Result, Ok, Err}
use Rattle.certs_verify.specs.certs_basics.HandedIn.{Digests}
use Rattle.certs_verify.specs.certs_basics.Verdicts.{Verdicts}
use Rattle.certs_verify.specs.certs_x509.declared.errors.validation.ValidationError.{ValidationError}
use Rattle.certs_verify.specs.certs_x509.declared.errors.validation.ValidationError.TheVariants as error
use Rattle.certs_verify.specs.certs_x509.declared.errors.verification.VerificationError.TheVariants.{Memory}
use Rattle.objects_valid.specs.certs_extension.Cert.{CertValue}
use Rattle.objects_valid.specs.certs_extension.Profiles.{FailsFirst, Profile}
use Rattle.objects_valid.specs.certs_extension.Verified.{HolderValue, HoldsBelow, IsIssuedAt, IsSignedAt, PassesAt, held_by, issued_tests}
use Rattle.objects_valid.specs.certs_extension.declared.forms.Role.{Role}
use Rattle.certs_verify.specs.Answers.{Fails, MemoryAfter, fault_of}
use Rattle.certs_verify.specs.Holders.{ResourceCertValue}
use Rattle.objects_valid.specs.objects_payload.ObjectText.{Object, Sound}
use Rattle.objects_cms.specs.Content.{FailsContent}

-- The object's certificate has the form of its role, its signer signed the content, and the issuer issued the certificate,
-- which is valid at the moment and claims what it may; h is that certificate with what it holds.
pub record AcceptsObject (d : Digests) (good : Verdicts) (strict : Bool) (role : Role) (now : ℕ)
    (issuer : HolderValue) (o : Object) (h : HolderValue) : Type 0 where
  pub profile : Profile d strict role o.cert
  pub sound : Sound d good o
  pub issued : IsIssuedAt good now issuer.cert (held_by issuer) o.cert
  pub holds : HoldsBelow (held_by issuer) o.cert h

-- The first test that the form or the content fails, by the error that tells it.
abbrev pub FailsSigned : Digests → Verdicts → Bool → Role → Object → ValidationError → Type 0
FailsSigned d good strict role o (error.Inspection t) = FailsFirst d strict role o.cert t
FailsSigned d good strict role o (error.Verification e) =
    Profile d strict role o.cert × FailsContent d good o e

-- The first test that the certificate fails below the issuer; lack of memory is told only after all tests but those of its
-- resources, which alone take memory.
abbrev pub FailsBelow : Verdicts → ℕ → HolderValue → CertValue → ValidationError → Type 0
FailsBelow good now issuer c (error.Inspection t) = ⊥
FailsBelow good now issuer c (error.Verification e) =
    Fails (PassesAt good now issuer.cert (held_by issuer) c) issued_tests (fault_of e)
    × MemoryAfter (IsSignedAt good now issuer.cert c) e

-- The first test that the object fails: those of the form, of the content, and of the certificate, in this order.
abbrev pub FailsObject : Digests → Verdicts → Bool → Role → ℕ → HolderValue → Object
    → ValidationError → Type 0
FailsObject d good strict role now issuer o e =
    FailsSigned d good strict role o e
    ⊎ (Profile d strict role o.cert × (Sound d good o × FailsBelow good now issuer o.cert e))

-- Lack of memory is told before the verifier is asked, or only where that holds: what is tested of the certificate before
-- its resources take memory. Before and after are the counts of what the verifier was asked.
abbrev pub SparesMemory : ℕ → ℕ → Type 0 → ValidationError → Type 0
SparesMemory before after passed e = e ≡ error.Verification Memory → (after ≡ before) ⊎ passed

-- Accepted, with what its certificate holds, or the first test that fails.
abbrev pub ValidatesObject : Digests → Verdicts → Bool → Role → ℕ → HolderValue → Object
    → Result ResourceCertValue ValidationError → Type 0
ValidatesObject d good strict role now issuer o (Ok r) =
    AcceptsObject d good strict role now issuer o r.holder
ValidatesObject d good strict role now issuer o (Err e) =
    FailsObject d good strict role now issuer o e

-- Accepted, with what its certificate holds and the content, or the first test that fails.
abbrev pub ValidatesContent : {A : Type 0} → Digests → Verdicts → Bool → Role → ℕ → HolderValue
    → Object → A → Result (ResourceCertValue × A) ValidationError → Type 0
ValidatesContent d good strict role now issuer o content (Ok p) =
    AcceptsObject d good strict role now issuer o p.0.holder × (p.1 ≡ content)
ValidatesContent d good strict role now issuer o content (Err e) =
    FailsObject d good strict role now issuer o e

-- The form and the content alone, and the certificate below the issuer alone.
abbrev pub VerifiesSigned : Digests → Verdicts → Bool → Role → Object
    → Result (Unit {0}) ValidationError → Type 0
VerifiesSigned d good strict role o (Ok x) = Profile d strict role o.cert × Sound d good o
VerifiesSigned d good strict role o (Err e) = FailsSigned d good strict role o e

abbrev pub VerifiesBelow : Verdicts → ℕ → HolderValue → CertValue
    → Result ResourceCertValue ValidationError → Type 0
VerifiesBelow good now issuer c (Ok r) =
    IsIssuedAt good now issuer.cert (held_by issuer) c × HoldsBelow (held_by issuer) c r.holder
VerifiesBelow good now issuer c (Err e) = FailsBelow good now issuer c e
