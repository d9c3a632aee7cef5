-- Accepted checklists: signed objects that stand apart from a repository, whose certificates pass a caller's test of
-- revocation and hold what is stated (RFC 9323 5).
use Rattle.std.specs.Prelude.{◌≡◌, ◌⊎◌, ℕ, Bool, Result}
use Rattle.objects_valid.specs.certs_basics.HandedIn.{Digests}
use Rattle.objects_valid.specs.certs_basics.Verdicts.{Verdicts}
use Rattle.objects_valid.specs.certs_x509.declared.errors.validation.ValidationError.{ValidationError}
use Rattle.objects_valid.specs.certs_x509.declared.errors.validation.ValidationError.TheVariants.{Verification}
use Rattle.objects_valid.specs.certs_x509.declared.errors.verification.VerificationError.TheVariants.{Uncovered}
use Rattle.objects_valid.specs.resources_chain.Sets.{InRuns}
use Rattle.certs.specs.certs_verify.Holders.{ResourceCertValue}
use Rattle.objects_valid.specs.certs_extension.Verified.{HolderValue}
use Rattle.objects_valid.specs.certs_extension.declared.forms.Role.TheVariants.{DetachedEe}
use Rattle.objects_valid.specs.Kinds.{KindValue}
use Rattle.objects_valid.specs.Processed.{Failing, FailsTest, Passing, PassesTest, ProcessesKind, Test}
use Rattle.objects_valid.specs.Stated.{IsCovered}
use Rattle.objects.specs.Checklists.{Checklist}

-- All that is stated is held by the certificate.
abbrev pub CoversChecklist : Checklist → HolderValue → Type 0
CoversChecklist x h = IsCovered (InRuns h.asn) (InRuns h.v4) (InRuns h.v6) x.resources

-- The caller's test, then that what is stated is held (RFC 9323 5).
abbrev pub PassesChecklist : Test → Checklist → Passing
PassesChecklist says x h = PassesTest says × CoversChecklist x h

abbrev pub FailsChecklist : Test → Checklist → Failing
FailsChecklist says x h e =
    FailsTest says e
    ⊎ (PassesTest says × ((e ≡ Verification Uncovered) × (CoversChecklist x h → ⊥)))

-- By the role of a certificate that names no place of its own (RFC 9323 2).
abbrev pub ProcessesChecklist :
    Test → Digests → Verdicts → Bool → ℕ → HolderValue → KindValue Checklist
    → Result (ResourceCertValue × Checklist) ValidationError → Type 0
ProcessesChecklist = ProcessesKind DetachedEe PassesChecklist FailsChecklist
