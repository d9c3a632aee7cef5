-- What the parts of a validation answer, put together.
use Rattle.std.proofs.Common.{◌≡◌, ℕ, Bool, Option, Some, None, Result, Ok, Err, inr, refl, sym, subst}
use Rattle.std.specs.Prelude.{◌↔◌, IfErr, IfOk, IsOk, String}
use Rattle.std.specs.declared.alloc.Global.{Global}
use Rattle.certs_verify.specs.certs_basics.HandedIn.{Digests}
use Rattle.certs_verify.specs.certs_basics.Verdicts.{Verdicts}
use Rattle.certs_verify.specs.certs_x509.declared.errors.validation.ValidationError.{ValidationError}
use Rattle.certs_verify.specs.certs_x509.declared.errors.validation.ValidationError.TheVariants.{Verification}
use Rattle.certs_verify.specs.certs_x509.declared.errors.verification.VerificationError.{VerificationError}
use Rattle.certs_verify.specs.certs_x509.declared.errors.verification.VerificationError.TheVariants as error
use Rattle.objects_valid.specs.certs_extension.Calls.{Fault, inspected, verified, wants_memory, VerifiesIssued}
use Rattle.objects_valid.specs.certs_extension.Cert.{CertValue}
use Rattle.objects_valid.specs.certs_extension.Kinds.{Kind}
use Rattle.objects_valid.specs.certs_extension.Profiles.{FailsFirst, Profile}
use Rattle.objects_valid.specs.certs_extension.Verified.{HolderValue, IsSignedAt, PassesAt, held_by, issued_tests}
use Rattle.objects_valid.specs.certs_extension.declared.forms.InspectionError.{InspectionError}
use Rattle.objects_valid.specs.certs_extension.declared.forms.Role.{Role}
use Rattle.certs_verify.specs.Answers.{Fails, MemoryAfter, fault_of}
use Rattle.certs_verify.specs.Holders.{ResourceCertValue}
use Rattle.certs_verify.specs.Validated.{Inspects, TellsNumbers}
use Rattle.certs_verify.specs.Words.{Meets, RefusedBy, TellsOutside}
use Rattle.certs_verify.specs.declared.refused.Refused.{Refused}
use Rattle.objects_valid.specs.objects_payload.ObjectText.{Object, Sound}
use Rattle.objects_cms.specs.Content.{FailsContent}
use Rattle.objects_valid.specs.Accepted.{FailsBelow, ValidatesContent, ValidatesObject, VerifiesBelow}
use Rattle.objects_valid.specs.Together.{joined, parted}

-- A refused certificate failed one of the tests.
pub failed_below : (good : Verdicts) (now : ℕ) (issuer : HolderValue) (c given : CertValue) (o : Option Fault)
    → RefusedBy (VerifiesIssued good now issuer c) given o → Fails (PassesAt good now issuer.cert (held_by issuer) c) issued_tests o
failed_below good now issuer c given None f = f
failed_below good now issuer c given (Some (inspected t)) f = f.1
failed_below good now issuer c given (Some (verified t)) f = f.1
failed_below good now issuer c given (Some wants_memory) f = tt

-- What an inspection answers, by when it is `Ok` and which test it refuses with.
pub inspects_by : (d : Digests) (strict : Bool) (role : Role) (c : CertValue) (r : Result (Unit {0}) InspectionError)
    → (IsOk r ↔ Profile d strict role c) → ((t : InspectionError) → (r ≡ Err t) ↔ FailsFirst d strict role c t) → Inspects d strict role c r
inspects_by d strict role c (Ok x) passed refused = passed.0 refl
inspects_by d strict role c (Err t) passed refused = (refused t).0 refl

-- What an inspection answers of the certificate that an object has, by when it is `Ok` and which test it refuses with.
pub inspects_own : (d : Digests) (strict : Bool) (role : Role) (own c : CertValue) (r : Result (Unit {0}) InspectionError)
    → c ≡ own → (IsOk r ↔ Profile d strict role c) → ((t : InspectionError) → (r ≡ Err t) ↔ FailsFirst d strict role c t) → Inspects d strict role own r
inspects_own d strict role own c r same passed refused = subst (λ (x : CertValue). Inspects d strict role x r) same (inspects_by d strict role c r passed refused)

abbrev Refusal : Type 0
Refusal = Refused VerificationError

pub refused_below : (good : Verdicts) (now : ℕ) (issuer : HolderValue) (c : CertValue) (x : Refusal) (told : ValidationError)
    → told ≡ Verification x.error → Meets (VerifiesIssued good now issuer c) (Err x) → MemoryAfter (IsSignedAt good now issuer.cert c) x.error → FailsBelow good now issuer c told
refused_below good now issuer c x told tells m after =
    subst (FailsBelow good now issuer c) (sym tells) (failed_below good now issuer c x.cert (fault_of x.error) m, after)

pub outside_below : (c : CertValue) (held : Kind → ℕ → Type 0) (x : Refusal) (told : ValidationError) → told ≡ Verification x.error → TellsOutside c held x.error → TellsNumbers c held told
outside_below c held x told tells t = subst (TellsNumbers c held) (sym tells) t

-- No error of a content is one of claims.
pub content_tells : (d : Digests) (v : Verdicts) (o : Object) (c : CertValue) (held : Kind → ℕ → Type 0) (e : VerificationError) → FailsContent d v o e → TellsOutside c held e
content_tells d v o c held error.MessageDigest f = tt
content_tells d v o c held error.SigningTime f = tt
content_tells d v o c held error.BadSignature f = tt
content_tells d v o c held error.Memory f = tt
content_tells d v o c held error.NotYetValid f = tt
content_tells d v o c held error.Expired f = tt
content_tells d v o c held error.AuthorityKeyMissing f = tt
content_tells d v o c held error.AuthorityKeyMismatch f = tt
content_tells d v o c held error.AiaMissing f = tt
content_tells d v o c held (error.Inherited kind) f = tt
content_tells d v o c held (error.Overclaim numbers) f = absurd f
content_tells d v o c held error.HashMismatch f = tt
content_tells d v o c held error.Uncovered f = tt
content_tells d v o c held error.Refused f = tt

-- The certificate is verified after the content, by a verifier that says the same.
pub behind : (d : Digests) (good given : Verdicts) (strict : Bool) (role : Role) (now : ℕ) (issuer : HolderValue) (o : Object) (c : CertValue) (r : Result ResourceCertValue ValidationError)
    → given ≡ good → c ≡ o.cert → Profile d strict role o.cert × Sound d good o → VerifiesBelow given now issuer c r → ValidatesObject d good strict role now issuer o r
behind d good given strict role now issuer o c (Ok r) e f p b =
    let b' = subst (λ (v : Verdicts). VerifiesBelow v now issuer o.cert (Ok r)) e (subst (λ (x : CertValue). VerifiesBelow given now issuer x (Ok r)) f b) in
    record { profile = p.0; sound = p.1; issued = b'.0; holds = b'.1 }
behind d good given strict role now issuer o c (Err x) e f p b =
    inr (p.0, (p.1, subst (λ (v : Verdicts). VerifiesBelow v now issuer o.cert (Err x)) e (subst (λ (y : CertValue). VerifiesBelow given now issuer y (Err x)) f b)))

-- With a content that is the object's.
pub with_content : {A : Type 0} (d : Digests) (good : Verdicts) (strict : Bool) (role : Role) (now : ℕ) (issuer : HolderValue) (o : Object) (content x : A) (r : Result ResourceCertValue ValidationError)
    → x ≡ content → ValidatesObject d good strict role now issuer o r → ValidatesContent d good strict role now issuer o content (joined x r)
with_content d good strict role now issuer o content x (Ok r) e v = (v, e)
with_content d good strict role now issuer o content x (Err f) e v = v

pub without_content : {A : Type 0} (d : Digests) (good : Verdicts) (strict : Bool) (role : Role) (now : ℕ) (issuer : HolderValue) (o : Object) (content : A) (r : Result (ResourceCertValue × A) ValidationError)
    → ValidatesContent d good strict role now issuer o content r → ValidatesObject d good strict role now issuer o (parted r)
without_content d good strict role now issuer o content (Ok p) v = v.0
without_content d good strict role now issuer o content (Err e) v = v

-- What is said of the locator and of the numbers outside holds of these too.
pub joined_tal : {A : Type 0} (x : A) (tal : String Global) (r : Result ResourceCertValue ValidationError) → IfOk r (λ k. k.tal ≡ tal) → IfOk (joined x r) (λ p. p.0.tal ≡ tal)
joined_tal x tal (Ok r) t = t
joined_tal x tal (Err e) t = tt

pub joined_outside : {A : Type 0} (x : A) (P : ValidationError → Type 0) (r : Result ResourceCertValue ValidationError) → IfErr r P → IfErr (joined x r) P
joined_outside x P (Ok r) t = tt
joined_outside x P (Err e) t = t

pub parted_tal : {A : Type 0} (tal : String Global) (r : Result (ResourceCertValue × A) ValidationError) → IfOk r (λ p. p.0.tal ≡ tal) → IfOk (parted r) (λ k. k.tal ≡ tal)
parted_tal tal (Ok p) t = t
parted_tal tal (Err e) t = tt

pub parted_outside : {A : Type 0} (P : ValidationError → Type 0) (r : Result (ResourceCertValue × A) ValidationError) → IfErr r P → IfErr (parted r) P
parted_outside P (Ok p) t = tt
parted_outside P (Err e) t = t
