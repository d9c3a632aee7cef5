-- Accepted objects with their contents: whose certificates pass a caller's test of revocation, and what of their contents
-- those hold (RFC 6488 3, RFC 9582 5, draft-ietf-sidrops-aspa-profile 4).
use Rattle.std.specs.Prelude.{◌≡◌, ◌≢◌, ◌⊎◌, ℕ, Bool, List, Result, Ok, Err}
use Rattle.certs_verify.specs.certs_basics.HandedIn.{Digests}
use Rattle.certs_verify.specs.certs_basics.Verdicts.{Verdicts}
use Rattle.certs_verify.specs.certs_x509.declared.errors.validation.ValidationError.{ValidationError}
use Rattle.certs_verify.specs.certs_x509.declared.errors.validation.ValidationError.TheVariants.{Verification}
use Rattle.certs_verify.specs.certs_x509.declared.errors.verification.VerificationError.TheVariants.{Memory, Refused, Uncovered}
use Rattle.objects_valid.specs.certs_extension.Verified.{HolderValue}
use Rattle.objects_valid.specs.certs_extension.declared.forms.Role.{Role}
use Rattle.objects_valid.specs.certs_extension.declared.forms.Role.TheVariants.{Ee}
use Rattle.certs_verify.specs.resources_chain.Sets.{InRuns}
use Rattle.certs_verify.specs.Holders.{ResourceCertValue}
use Rattle.objects_valid.specs.Kinds.{KindValue}
use Rattle.objects_valid.specs.objects_payload.Aspas.{Aspa}
use Rattle.objects_valid.specs.objects_payload.ObjectText.{Object}
use Rattle.objects_valid.specs.objects_payload.Roas.{Roa}
use Rattle.objects_payload.specs.Covered.{IsCoveredAspa, IsCoveredRoa}
use Rattle.objects_valid.specs.Accepted.{AcceptsObject, FailsObject}

-- What passes tests after an object's own, and which of them fails first, by what its certificate holds.
abbrev pub Passing : Type 1
Passing = HolderValue → Type 0

abbrev pub Failing : Type 1
Failing = HolderValue → ValidationError → Type 0

abbrev pub Answers : Passing → Failing → HolderValue → Result (Unit {0}) ValidationError → Type 0
Answers passes fails h (Ok x) = passes h
Answers passes fails h (Err e) = fails h e

-- The object, whose certificate has that role, is accepted and passes the tests after, and its content is answered with what
-- its certificate holds; or the first test that fails: one of the object's own, or one after.
abbrev pub Processes : {A : Type 0}
    → Role → Passing → Failing → Digests → Verdicts → Bool → ℕ → HolderValue → Object → A
    → Result (ResourceCertValue × A) ValidationError → Type 0
Processes role passes fails d good strict now issuer o content (Ok p) =
    AcceptsObject d good strict role now issuer o p.0.holder
    × (passes p.0.holder × (p.1 ≡ content))
Processes role passes fails d good strict now issuer o content (Err e) =
    FailsObject d good strict role now issuer o e
    ⊎ ((h : HolderValue) × AcceptsObject d good strict role now issuer o h × fails h e)

-- The caller's test may be asked where the object is accepted, and that is all that is required of it.
abbrev pub CallableIfAccepted : Type 0
    → Digests → Verdicts → Bool → ℕ → HolderValue → Object → Type 0
CallableIfAccepted callable d good strict now issuer o =
    (h : HolderValue) → AcceptsObject d good strict Ee now issuer o h → callable

-- The caller's test may be asked where the object, whose certificate has that role, is accepted and passes what is tested
-- before.
abbrev pub CallableAfter : Role → Passing → Type 0
    → Digests → Verdicts → Bool → ℕ → HolderValue → Object → Type 0
CallableAfter role before callable d good strict now issuer o =
    (h : HolderValue) → AcceptsObject d good strict role now issuer o h → before h → callable

-- What a caller's test of a certificate may answer.
abbrev pub Test : Type 1
Test = Result (Unit {0}) ValidationError → Type 0

-- The caller's test passes, or it refuses: lack of memory is reported as that, and all other causes as one refusal.
abbrev pub PassesTest : Test → Type 0
PassesTest says = says (Ok tt)

abbrev pub TellsCause : ValidationError → ValidationError → Type 0
TellsCause cause e =
    ((e ≡ Verification Refused) × (cause ≢ Verification Memory))
    ⊎ ((e ≡ Verification Memory) × (cause ≡ Verification Memory))

abbrev pub FailsTest : Test → ValidationError → Type 0
FailsTest says e = (cause : ValidationError) × says (Err cause) × TellsCause cause e

-- Any signed object: the caller's test.
abbrev pub PassesAny : Test → Passing
PassesAny says h = PassesTest says

abbrev pub FailsAny : Test → Failing
FailsAny says h e = FailsTest says e

abbrev pub ProcessesObject : Test → Digests → Verdicts → Bool → ℕ → HolderValue → Object
    → Result (ResourceCertValue × List ℕ) ValidationError → Type 0
ProcessesObject says d good strict now issuer o =
    Processes Ee (PassesAny says) (FailsAny says) d good strict now issuer o o.content

-- An object with what its content says, by the tests of its kind.
abbrev pub ProcessesKind : {A : Type 0} → Role → (Test → A → Passing) → (Test → A → Failing)
    → Test → Digests → Verdicts → Bool → ℕ → HolderValue → KindValue A
    → Result (ResourceCertValue × A) ValidationError → Type 0
ProcessesKind role passes fails says d good strict now issuer k =
    Processes role (passes says k.content) (fails says k.content)
    d good strict now issuer k.signed k.content

-- Nothing is tested before the caller's test.
abbrev pub before_none : {A : Type 0} → A → Passing
before_none x h = Unit {0}

-- A route origin attestation: the caller's test, then that all prefixes are held (RFC 9582 5).
abbrev pub CoversRoa : Roa → HolderValue → Type 0
CoversRoa x h = IsCoveredRoa (InRuns h.v4) (InRuns h.v6) x

abbrev pub PassesRoa : Test → Roa → Passing
PassesRoa says x h = PassesTest says × CoversRoa x h

abbrev pub FailsRoa : Test → Roa → Failing
FailsRoa says x h e =
    FailsTest says e ⊎ (PassesTest says × ((e ≡ Verification Uncovered) × (CoversRoa x h → ⊥)))

-- A provider attestation: that the customer is held, then the caller's test (draft-ietf-sidrops-aspa-profile 4).
abbrev pub CoversAspa : Aspa → HolderValue → Type 0
CoversAspa x h = IsCoveredAspa (InRuns h.asn) x

abbrev pub PassesAspa : Test → Aspa → Passing
PassesAspa says x h = CoversAspa x h × PassesTest says

abbrev pub FailsAspa : Test → Aspa → Failing
FailsAspa says x h e =
    ((e ≡ Verification Uncovered) × (CoversAspa x h → ⊥)) ⊎ (CoversAspa x h × FailsTest says e)
