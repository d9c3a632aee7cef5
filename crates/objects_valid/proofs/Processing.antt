-- What tests after an object's own answer, put together with it.
use Rattle.std.proofs.Common.{◌≡◌, ℕ, Bool, Result, Ok, Err, inl, inr, subst, sym}
use Rattle.std.specs.Prelude.{IfErr, IfOk, String}
use Rattle.std.specs.declared.alloc.Global.{Global}
use Rattle.certs_verify.specs.certs_basics.HandedIn.{Digests}
use Rattle.certs_verify.specs.certs_basics.Verdicts.{Verdicts}
use Rattle.certs_verify.specs.certs_x509.declared.errors.validation.ValidationError.{ValidationError}
use Rattle.objects_valid.specs.certs_extension.Cert.{CertValue}
use Rattle.objects_valid.specs.certs_extension.Verified.{HolderValue}
use Rattle.objects_valid.specs.certs_extension.declared.forms.Role.{Role}
use Rattle.certs_verify.specs.Holders.{ResourceCertValue}
use Rattle.objects_valid.specs.objects_payload.Aspas.{Aspa}
use Rattle.objects_valid.specs.objects_payload.ObjectText.{Object}
use Rattle.objects_valid.specs.Accepted.{AcceptsObject, FailsObject}
use Rattle.objects_valid.specs.Processed.{Answers, CallableAfter, CoversAspa, Failing, FailsAny, FailsAspa, FailsTest, Passing, PassesAny, PassesAspa, PassesTest, Processes, Test}
use Rattle.objects_valid.specs.Together.{joined_if}

-- The tests were asked of the holder's certificate, which is the object's.
pub processed : {A : Type 0} (role : Role) (passes : CertValue → A → Passing) (fails : CertValue → A → Failing) (d : Digests) (good : Verdicts) (strict : Bool) (now : ℕ) (issuer : HolderValue) (o s : Object) (content x : A) (r : ResourceCertValue) (tested : Result (Unit {0}) ValidationError)
    → s ≡ o → x ≡ content → AcceptsObject d good strict role now issuer s r.holder → Answers (passes r.holder.cert x) (fails r.holder.cert x) r.holder tested
    → Processes role (passes o.cert content) (fails o.cert content) d good strict now issuer o content (joined_if r x tested)
processed {A} role passes fails d good strict now issuer o s content x r tested same is accepted told =
    let a : AcceptsObject d good strict role now issuer o r.holder = subst (λ (p : Object). AcceptsObject d good strict role now issuer p r.holder) same accepted in
    let t : Answers (passes o.cert content) (fails o.cert content) r.holder tested =
    subst (λ (y : A). Answers (passes o.cert y) (fails o.cert y) r.holder tested) is
    (subst (λ (c : CertValue). Answers (passes c x) (fails c x) r.holder tested) a.holds.cert told) in
    closed tested a t
  where
    closed : (tested : Result (Unit {0}) ValidationError) → AcceptsObject d good strict role now issuer o r.holder → Answers (passes o.cert content) (fails o.cert content) r.holder tested
        → Processes role (passes o.cert content) (fails o.cert content) d good strict now issuer o content (joined_if r x tested)
    closed (Ok u) a t = (a, (t, is))
    closed (Err e) a t = inr (r.holder, a, t)

-- The object failed a test of its own.
pub refused : {A : Type 0} (role : Role) (passes : Passing) (fails : Failing) (d : Digests) (good : Verdicts) (strict : Bool) (now : ℕ) (issuer : HolderValue) (o s : Object) (content : A) (e : ValidationError)
    → s ≡ o → FailsObject d good strict role now issuer s e → Processes role passes fails d good strict now issuer o content (Err e)
refused role passes fails d good strict now issuer o s content e same f = inl (subst (λ (p : Object). FailsObject d good strict role now issuer p e) same f)

-- What is said of the locator and of the numbers outside holds of these too.
pub processed_tal : {A : Type 0} (x : A) (tal : String Global) (r : ResourceCertValue) (tested : Result (Unit {0}) ValidationError) → r.tal ≡ tal → IfOk (joined_if r x tested) (λ p. p.0.tal ≡ tal)
processed_tal x tal r (Ok u) t = t
processed_tal x tal r (Err e) t = tt

pub processed_outside : {A : Type 0} (x : A) (P : ValidationError → Type 0) (r : ResourceCertValue) (tested : Result (Unit {0}) ValidationError) → IfErr tested P → IfErr (joined_if r x tested) P
processed_outside x P r (Ok u) t = tt
processed_outside x P r (Err e) t = t

pub outside_joined : {A : Type 0} (x : A) (P : ValidationError → Type 0) (r : ResourceCertValue) (tested : Result (Unit {0}) ValidationError) (s : Result (ResourceCertValue × A) ValidationError)
    → s ≡ joined_if r x tested → IfErr tested P → IfErr s P
outside_joined {A} x P r tested s e t = subst (λ (k : Result (ResourceCertValue × A) ValidationError). IfErr k P) (sym e) (processed_outside x P r tested t)

-- What a caller's test answers, of the certificate that is the holder's.
abbrev Answered : (CertValue → Test) → CertValue → Result (Unit {0}) ValidationError → Type 0
Answered says c r = (h : HolderValue) → Answers (PassesAny (says c)) (FailsAny (says c)) h r

pub asked_ok : (says : CertValue → Test) (given : CertValue) (h : HolderValue) → given ≡ h.cert → Answered says given (Ok tt) → PassesTest (says h.cert)
asked_ok says given h same a = subst (λ (c : CertValue). PassesTest (says c)) same (a h)

pub asked_err : (says : CertValue → Test) (given : CertValue) (h : HolderValue) (e : ValidationError) → given ≡ h.cert → Answered says given (Err e) → FailsTest (says h.cert) e
asked_err says given h e same a = subst (λ (c : CertValue). FailsTest (says c) e) same (a h)

-- The caller's test after the customer's.
pub asked_last : (says : CertValue → Test) (given : CertValue) (x : Aspa) (h : HolderValue) (r : Result (Unit {0}) ValidationError) → given ≡ h.cert → CoversAspa x h → Answered says given r → Answers (PassesAspa (says h.cert) x) (FailsAspa (says h.cert) x) h r
asked_last says given x h (Ok u) same covers a = (covers, subst (λ (c : CertValue). PassesTest (says c)) same (a h))
asked_last says given x h (Err e) same covers a = inr (covers, subst (λ (c : CertValue). FailsTest (says c) e) same (a h))

-- The caller's test may be asked of the holder's certificate, which is the accepted object's, where the tests before it pass
-- of the content, which is the object's.
pub callable_after : {A : Type 0} (role : Role) (before : A → Passing) (takes : CertValue → Type 0) (d : Digests) (good : Verdicts) (strict : Bool) (now : ℕ) (issuer : HolderValue) (o s : Object) (content x : A) (h : HolderValue)
    → s ≡ o → x ≡ content → AcceptsObject d good strict role now issuer s h → CallableAfter role (before content) (takes o.cert) d good strict now issuer o → before x h → takes h.cert
callable_after {A} role before takes d good strict now issuer o s content x h same is accepted callable first =
    let a = subst (λ (p : Object). AcceptsObject d good strict role now issuer p h) same accepted in
    subst takes (sym a.holds.cert) (callable h a (subst (λ (y : A). before y h) is first))
