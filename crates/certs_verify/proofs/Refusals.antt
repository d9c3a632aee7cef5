-- What a refusal tells: numbers only where a claim is refused, and the first test that fails.
use Rattle.std.proofs.Common.{◌≡◌, ℕ, List, [], ◌∷◌, ◌++◌, Result, Ok, Err, refl, sym, subst}
use Rattle.std.specs.Prelude.{◌↔◌, Bool, IsOk, IsErr, IsErrAnd, IfErr}
use Rattle.certs_x509.specs.declared.errors.verification.Overclaimed.TheVariants as outside
use Rattle.certs_x509.specs.declared.errors.verification.VerificationError.{VerificationError}
use Rattle.certs_x509.specs.declared.errors.verification.VerificationError.TheVariants as error
use Rattle.certs_verify.specs.certs_extension.declared.forms.VerificationTest.{VerificationTest}
use Rattle.certs_verify.specs.certs_extension.declared.forms.VerificationTest.TheVariants as test
use Rattle.certs_verify.specs.certs_extension.Cert.{CertValue}
use Rattle.certs_verify.specs.certs_extension.Kinds.{Kind}
use Rattle.certs_verify.specs.certs_extension.Verified.{HolderValue, PassesAt, held_by, issuer_claim, nothing, validity}
use Rattle.certs_verify.specs.certs_basics.Lists.{Each, FirstFailing}
use Rattle.certs_verify.specs.certs_basics.Verdicts.{Verdicts}
use Rattle.certs_verify.specs.Answers.{Answers, Fails, fault_of}
use Rattle.certs_verify.specs.certs_extension.declared.forms.InspectionError.{InspectionError}
use Rattle.certs_verify.specs.certs_extension.declared.forms.Role.{Role}
use Rattle.certs_verify.specs.certs_extension.Profiles.{Profile, FailsFirst}
use Rattle.certs_verify.specs.certs_basics.HandedIn.{Digests}
use Rattle.certs_verify.specs.Validated.{Inspects}
use Rattle.certs_verify.specs.Words.{TellsOutside}
use Rattle.certs_verify.proofs.Chains.{Alike, each_alike, each_front, fault_alike, handed_on}

-- The error of a test that isn't one of claims has no numbers.
abbrev pub IsPlain : VerificationTest → Type 0
IsPlain test.NotYetValid = Unit {0}
IsPlain test.Expired = Unit {0}
IsPlain test.AuthorityKeyMissing = Unit {0}
IsPlain test.AuthorityKeyMismatch = Unit {0}
IsPlain test.AiaMissing = Unit {0}
IsPlain test.BadSignature = Unit {0}
IsPlain test.InheritedV4 = Unit {0}
IsPlain test.InheritedV6 = Unit {0}
IsPlain test.InheritedAs = Unit {0}
IsPlain test.OverclaimV4 = ⊥
IsPlain test.OverclaimV6 = ⊥
IsPlain test.OverclaimAs = ⊥

plain : (P : VerificationTest → Type 0) (ts : List VerificationTest) (t : VerificationTest) → Each IsPlain ts → FirstFailing P ts t → IsPlain t
plain P ts t all f = (each_front IsPlain f.front t f.behind (subst (Each IsPlain) f.whole all)).1

pub tells_none : (P : VerificationTest → Type 0) (ts : List VerificationTest) (c : CertValue) (held : Kind → ℕ → Type 0) (e : VerificationError) → Each IsPlain ts → Fails P ts (fault_of e) → TellsOutside c held e
tells_none P ts c held (error.Overclaim (outside.V4 n)) all f = absurd (plain P ts test.OverclaimV4 all f)
tells_none P ts c held (error.Overclaim (outside.V6 n)) all f = absurd (plain P ts test.OverclaimV6 all f)
tells_none P ts c held (error.Overclaim (outside.Asn n)) all f = absurd (plain P ts test.OverclaimAs all f)
tells_none P ts c held error.NotYetValid all f = tt
tells_none P ts c held error.Expired all f = tt
tells_none P ts c held error.AuthorityKeyMissing all f = tt
tells_none P ts c held error.AuthorityKeyMismatch all f = tt
tells_none P ts c held error.AiaMissing all f = tt
tells_none P ts c held error.BadSignature all f = tt
tells_none P ts c held (error.Inherited kind) all f = tt
tells_none P ts c held error.MessageDigest all f = tt
tells_none P ts c held error.SigningTime all f = tt
tells_none P ts c held error.HashMismatch all f = tt
tells_none P ts c held error.Uncovered all f = tt
tells_none P ts c held error.Refused all f = tt
tells_none P ts c held error.Memory all f = tt

-- What an error tells of numbers outside stays so where it was handed on.
pub outside_handed_on : {A : Type 0} (c : CertValue) (held : Kind → ℕ → Type 0) (e : VerificationError) (r : Result A VerificationError)
    → IsErr r × IsErrAnd r (λ x. x ≡ e) → TellsOutside c held e → IfErr r (TellsOutside c held)
outside_handed_on c held e (Ok x) a t = absurd a.1
outside_handed_on c held e (Err x) a t = subst (TellsOutside c held) (sym a.1) t

-- What is tested apart from resources asks nothing of what the issuer holds.
pub signed_alike : (good : Verdicts) (now : ℕ) (given issuer c : CertValue) (held : Kind → ℕ → Type 0) → given ≡ issuer
    → Each (Alike (PassesAt good now given nothing c) (PassesAt good now issuer held c)) (validity ++ issuer_claim ++ test.BadSignature ∷ [])
signed_alike good now given issuer c held e =
    subst (λ (x : CertValue). Each (Alike (PassesAt good now x nothing c) (PassesAt good now issuer held c)) (validity ++ issuer_claim ++ test.BadSignature ∷ [])) (sym e)
    (((λ p. p), (λ p. p)), (((λ p. p), (λ p. p)), (((λ p. p), (λ p. p)), (((λ p. p), (λ p. p)), (((λ p. p), (λ p. p)), (((λ p. p), (λ p. p)), tt))))))

-- They are passed below the issuer with what it holds where they are passed of its certificate alone.
abbrev signed_tests : List VerificationTest
signed_tests = validity ++ issuer_claim ++ test.BadSignature ∷ []

pub below_passed : (good : Verdicts) (now : ℕ) (given : CertValue) (issuer : HolderValue) (c : CertValue) → given ≡ issuer.cert
    → Each (PassesAt good now given nothing c) signed_tests → Each (PassesAt good now issuer.cert (held_by issuer) c) signed_tests
below_passed good now given issuer c e =
    each_alike (PassesAt good now given nothing c) (PassesAt good now issuer.cert (held_by issuer) c) signed_tests (signed_alike good now given issuer.cert c (held_by issuer) e)

-- One of them fails, and its error, which tells no numbers, is handed on.
pub below_refused : {A : Type 0} (good : Verdicts) (now : ℕ) (given : CertValue) (issuer : HolderValue) (c : CertValue) (claims : List VerificationTest) (e : VerificationError) (r : Result A VerificationError)
    → given ≡ issuer.cert → IsErr r × IsErrAnd r (λ x. x ≡ e) → Fails (PassesAt good now given nothing c) signed_tests (fault_of e)
    → Answers (PassesAt good now issuer.cert (held_by issuer) c) (signed_tests ++ claims) r
below_refused good now given issuer c claims e r same a f =
    let P = PassesAt good now given nothing c in
    let Q = PassesAt good now issuer.cert (held_by issuer) c in
    handed_on Q [] signed_tests claims e r a tt (fault_alike P Q signed_tests (fault_of e) (signed_alike good now given issuer.cert c (held_by issuer) same) f)

pub below_untold : {A : Type 0} (good : Verdicts) (now : ℕ) (given : CertValue) (issuer : HolderValue) (c : CertValue) (e : VerificationError) (r : Result A VerificationError)
    → IsErr r × IsErrAnd r (λ x. x ≡ e) → Fails (PassesAt good now given nothing c) signed_tests (fault_of e) → IfErr r (TellsOutside c (held_by issuer))
below_untold good now given issuer c e r a f =
    outside_handed_on c (held_by issuer) e r a
    (tells_none (PassesAt good now given nothing c) signed_tests c (held_by issuer) e (tt, (tt, (tt, (tt, (tt, (tt, tt)))))) f)

-- What an inspection answers, by when it is `Ok` and which test it refuses with.
pub inspects_by : (d : Digests) (strict : Bool) (role : Role) (c : CertValue) (r : Result (Unit {0}) InspectionError)
    → (IsOk r ↔ Profile d strict role c) → ((t : InspectionError) → (r ≡ Err t) ↔ FailsFirst d strict role c t) → Inspects d strict role c r
inspects_by d strict role c (Ok x) passed refused = passed.0 refl
inspects_by d strict role c (Err t) passed refused = (refused t).0 refl
