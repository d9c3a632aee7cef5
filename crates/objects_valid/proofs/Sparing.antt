-- Where lack of memory is told of an object: before the verifier is asked, or after the tests of its certificate that take
-- none.
use Rattle.std.proofs.Common.{◌≡◌, ℕ, Result, Ok, Err, inr, sym, subst}
use Rattle.std.specs.Prelude.{IfErr}
use Rattle.certs_verify.specs.certs_basics.Verdicts.{Verdicts}
use Rattle.certs_verify.specs.certs_x509.declared.errors.validation.ValidationError.{ValidationError}
use Rattle.certs_verify.specs.certs_x509.declared.errors.validation.ValidationError.TheVariants.{Inspection, Verification}
use Rattle.certs_verify.specs.certs_x509.declared.errors.verification.VerificationError.{VerificationError}
use Rattle.certs_verify.specs.certs_x509.declared.errors.verification.VerificationError.TheVariants.{BadSignature, Memory}
use Rattle.objects_valid.specs.certs_extension.Cert.{CertValue}
use Rattle.objects_valid.specs.certs_extension.Kinds.{Kind}
use Rattle.objects_valid.specs.certs_extension.Verified.{HolderValue, IsIssuedAt, IsSignedAt}
use Rattle.certs_verify.specs.Holders.{ResourceCertValue}
use Rattle.objects_valid.specs.objects_payload.ObjectText.{Object}
use Rattle.objects_valid.specs.Accepted.{SparesMemory, VerifiesBelow}
use Rattle.objects_valid.specs.Together.{joined, joined_if, parted}

pub told_inside : (e f : VerificationError) → Verification e ≡ Verification f → e ≡ f
told_inside e f m = cc

pub not_signature : Memory ≡ BadSignature → ⊥
not_signature m = absurd cc

-- A certificate that is issued is signed, whatever it claims.
pub issued_signed : (good : Verdicts) (now : ℕ) (issuer : CertValue) (held : Kind → ℕ → Type 0) (c : CertValue) → IsIssuedAt good now issuer held c → IsSignedAt good now issuer c
issued_signed good now issuer held c a = (a.0, (a.1.0, (a.1.1.0, (a.1.1.1.0, (a.1.1.1.1.0, (a.1.1.1.1.1.0, tt))))))

-- The certificate is verified last, by a verifier that says the same.
pub spared_below : (before after : ℕ) (good given : Verdicts) (now : ℕ) (issuer : HolderValue) (own c : CertValue) (r : Result ResourceCertValue ValidationError)
    → given ≡ good → c ≡ own → VerifiesBelow given now issuer c r → IfErr r (SparesMemory before after (IsSignedAt good now issuer.cert own))
spared_below before after good given now issuer own c (Ok r) e f b = tt
spared_below before after good given now issuer own c (Err (Inspection t)) e f b = absurd b
spared_below before after good given now issuer own c (Err (Verification x)) e f b = λ m.
    inr (subst (λ (v : Verdicts). IsSignedAt v now issuer.cert own) e (subst (λ (y : CertValue). IsSignedAt given now issuer.cert y) f (b.1 (told_inside x Memory m))))

pub spared_alike : {A : Type 0} (before after : ℕ) (good : Verdicts) (now : ℕ) (issuer : CertValue) (s o : Object) (r : Result A ValidationError)
    → s ≡ o → IfErr r (SparesMemory before after (IsSignedAt good now issuer s.cert)) → IfErr r (SparesMemory before after (IsSignedAt good now issuer o.cert))
spared_alike {A} before after good now issuer s o r same h = subst (λ (p : Object). IfErr r (SparesMemory before after (IsSignedAt good now issuer p.cert))) same h

-- It holds of what is put together with a content, or parted from it, too.
pub spared_joined : {A : Type 0} (P : ValidationError → Type 0) (x : A) (r : Result ResourceCertValue ValidationError) (s : Result (ResourceCertValue × A) ValidationError)
    → s ≡ joined x r → IfErr r P → IfErr s P
spared_joined {A} P x r s e h = subst (λ (k : Result (ResourceCertValue × A) ValidationError). IfErr k P) (sym e) (told r h)
  where
    told : (r : Result ResourceCertValue ValidationError) → IfErr r P → IfErr (joined x r) P
    told (Ok y) h = tt
    told (Err f) h = h

pub spared_parted : {A : Type 0} (P : ValidationError → Type 0) (r : Result (ResourceCertValue × A) ValidationError) (s : Result ResourceCertValue ValidationError)
    → s ≡ parted r → IfErr r P → IfErr s P
spared_parted {A} P r s e h = subst (λ (k : Result ResourceCertValue ValidationError). IfErr k P) (sym e) (told r h)
  where
    told : (r : Result (ResourceCertValue × A) ValidationError) → IfErr r P → IfErr (parted r) P
    told (Ok y) h = tt
    told (Err f) h = h

-- And of tests after an object that is accepted, whatever they tell.
pub spared_accepted : {A : Type 0} (before after : ℕ) (passed : Type 0) (x : A) (h : ResourceCertValue) (tested : Result (Unit {0}) ValidationError) (s : Result (ResourceCertValue × A) ValidationError)
    → s ≡ joined_if h x tested → passed → IfErr s (SparesMemory before after passed)
spared_accepted {A} before after passed x h tested s e p = subst (λ (k : Result (ResourceCertValue × A) ValidationError). IfErr k (SparesMemory before after passed)) (sym e) (told tested)
  where
    told : (tested : Result (Unit {0}) ValidationError) → IfErr (joined_if h x tested) (SparesMemory before after passed)
    told (Ok u) = tt
    told (Err f) = λ m. inr p
