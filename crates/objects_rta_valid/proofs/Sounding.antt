-- What verification of a content says of its soundness.
use Rattle.std.proofs.Common.{◌≡◌, ℕ, Bool, false, List, [], ◌∷◌, None, Some, Result, Ok, Err, map, length, refl, subst, arith}
use Rattle.std.specs.Prelude.{◌↔◌, IfOk, IsTrue}
use Rattle.std.specs.List.{AllZip, slice_get}
use Rattle.certs_verify.specs.certs_x509.declared.errors.verification.VerificationError.{VerificationError}
use Rattle.certs_verify.specs.certs_x509.declared.errors.verification.VerificationError.TheVariants as error
use Rattle.certs_verify.specs.certs_basics.HandedIn.{Digests}
use Rattle.certs_verify.specs.certs_basics.Verdicts.{Verdicts}
use Rattle.certs_verify.specs.certs_extension.Cert.{CertValue}
use Rattle.objects_rta.specs.objects_cms.Content.{FailsContent, object_with}
use Rattle.objects_rta.specs.objects_cms.Signer.{SignerValue, signer_fields}
use Rattle.objects_rta.specs.objects_payload.ObjectText.{Object, Signer, Sound, signer_of}
use Rattle.objects_rta.specs.MultiText.{Multi}
use Rattle.objects_rta_valid.specs.Validity.{IsSoundAt, object_of}
use Rattle.objects_rta_valid.proofs.Standing.{none_stands, not_told, stands_told}

-- A test that fails says that the object isn't sound; lack of memory says nothing.
pub fails_not : (d : Digests) (v : Verdicts) (o : Object) (e : VerificationError) → (e ≡ error.Memory → ⊥) → FailsContent d v o e → Sound d v o → ⊥
fails_not d v o error.MessageDigest n f s = f s.digest
fails_not d v o error.SigningTime n f s = f.1 s.time
fails_not d v o error.BadSignature n f s = f.1.1 (record { message = s.message; is = s.message_is; good = s.signature })
fails_not d v o error.Memory n f s = n refl
fails_not d v o error.NotYetValid n f s = f
fails_not d v o error.Expired n f s = f
fails_not d v o error.AuthorityKeyMissing n f s = f
fails_not d v o error.AuthorityKeyMismatch n f s = f
fails_not d v o error.AiaMissing n f s = f
fails_not d v o (error.Inherited kind) n f s = f
fails_not d v o (error.Overclaim numbers) n f s = f
fails_not d v o error.HashMismatch n f s = f
fails_not d v o error.Uncovered n f s = f
fails_not d v o error.Refused n f s = f

-- What is asked of a signer with the certificate at a place, by certificates and a content that are lent.
pub sound_at : {E : Type 0} (d : Digests) (v : Verdicts) (o : Multi) (s : SignerValue) (place : ℕ) (certs : List CertValue) (content : List ℕ) (c : CertValue) (r : Result Bool E)
    → certs ≡ o.certs → content ≡ o.content → slice_get certs place ≡ Some c → IfOk r (λ yes. (ct : List ℕ) → IsTrue yes ↔ Sound d v (object_with ct content c s))
    → IfOk r (λ yes. IsTrue yes ↔ IsSoundAt d v o (signer_of (signer_fields s)) place)
sound_at d v o s place certs content c (Ok b) carried same at told =
    let here = subst (λ (cs : List CertValue). slice_get cs place ≡ Some c) carried at in
    let sound = subst (λ (text : List ℕ). IsTrue b ↔ Sound d v (object_with o.content_type text c s)) same (told o.content_type) in
    stands_told (λ (x : CertValue). Sound d v (object_with o.content_type o.content x s)) o.certs place c b here sound
sound_at d v o s place certs content c (Err e) carried same at told = tt

pub none_at : (d : Digests) (v : Verdicts) (o : Multi) (s : Signer) (place : ℕ) (certs : List CertValue) → certs ≡ o.certs → slice_get certs place ≡ None → IsTrue false ↔ IsSoundAt d v o s place
none_at d v o s place certs carried none =
    not_told (none_stands (λ (x : CertValue). Sound d v (object_of o x s)) o.certs place (subst (λ (cs : List CertValue). slice_get cs place ≡ None) carried none))

-- Signers as they are read, and as an object has them.
zip_signers : (P : Signer → ℕ → Type 0) (infos : List SignerValue) (places : List ℕ) → AllZip (λ s place. P (signer_of (signer_fields s)) place) infos places ↔ AllZip P (map signer_of (map signer_fields infos)) places
zip_signers P infos places = (there P infos places, back P infos places)
  where
    there : (P : Signer → ℕ → Type 0) (infos : List SignerValue) (places : List ℕ) → AllZip (λ s place. P (signer_of (signer_fields s)) place) infos places → AllZip P (map signer_of (map signer_fields infos)) places
    there P [] [] a = a
    there P [] (x ∷ xs) a = a
    there P (s ∷ ss) [] a = a
    there P (s ∷ ss) (x ∷ xs) a = (a.0, there P ss xs a.1)

    back : (P : Signer → ℕ → Type 0) (infos : List SignerValue) (places : List ℕ) → AllZip P (map signer_of (map signer_fields infos)) places → AllZip (λ s place. P (signer_of (signer_fields s)) place) infos places
    back P [] [] a = a
    back P [] (x ∷ xs) a = a
    back P (s ∷ ss) [] a = a
    back P (s ∷ ss) (x ∷ xs) a = (a.0, back P ss xs a.1)

-- Signers that are lent, with the places that go with them; they are as many as the object has.
pub signers_zip : (P : Signer → ℕ → Type 0) (infos : List SignerValue) (signers : List Signer) (places : List ℕ) → map signer_of (map signer_fields infos) ≡ signers
    → AllZip (λ s place. P (signer_of (signer_fields s)) place) infos places ↔ AllZip P signers places
signers_zip P infos signers places e =
    subst (λ (ss : List Signer). AllZip (λ (s : SignerValue) (place : ℕ). P (signer_of (signer_fields s)) place) infos places ↔ AllZip P ss places) e (zip_signers P infos places)

pub as_many : (infos : List SignerValue) (signers : List Signer) → map signer_of (map signer_fields infos) ≡ signers → length infos ≡ length signers
as_many infos signers e = subst (λ (ss : List Signer). length infos ≡ length ss) e (many infos)
  where
    many : (infos : List SignerValue) → length infos ≡ length (map signer_of (map signer_fields infos))
    many [] = refl
    many (s ∷ ss) = let rest = many ss in omega (arith, rest)
