-- What verification of a content says, by its tests.
use Rattle.std.proofs.Common.{◌≡◌, [], ◌∷◌, Some, refl, subst}
use Rattle.certs_verify.specs.certs_x509.declared.errors.verification.VerificationError.{VerificationError}
use Rattle.certs_verify.specs.certs_x509.declared.errors.verification.VerificationError.TheVariants as error
use Rattle.objects_cms.specs.Content.{FailsContent}
use Rattle.rpki_standing.specs.certs_basics.Lists.{FirstFailing}
use Rattle.rpki_rules.specs.Objects.{Object}
use Rattle.rpki_rules.specs.declared.reason.certs.ContentTest.TheVariants.{Digest, SigningTime, Signature}
use Rattle.rpki_rules.specs.Reasons.{PassesContent, content_tests}
use Rattle.rpki_rules.specs.declared.reason.certs.ContentTest.{ContentTest}
use Rattle.rpki_rules.specs.World.{World}

module _ (w : World) (o : Object) where
  abbrev Fails : ContentTest → Type 0
  Fails t = FirstFailing (PassesContent w o) content_tests t

  digest_fails : FailsContent w.digests w.good o error.MessageDigest → Fails Digest
  digest_fails f = record { front = []; behind = SigningTime ∷ Signature ∷ []; whole = refl; passed = tt; fails = f }

  time_fails : FailsContent w.digests w.good o error.SigningTime → Fails SigningTime
  time_fails f = record { front = Digest ∷ []; behind = Signature ∷ []; whole = refl; passed = (f.0, tt); fails = f.1 }

  signature_fails : FailsContent w.digests w.good o error.BadSignature → Fails Signature
  signature_fails f =
      record { front = Digest ∷ SigningTime ∷ []; behind = []; whole = refl; passed = (f.0, (f.1.0, tt)); fails = λ s. f.1.1 (record { message = s.message; is = s.message_is; good = s.good }) }

  -- The test that an error tells.
  pub test_fails : (t : ContentTest) (e : VerificationError) → FailsContent w.digests w.good o e → (Some t ≡ Some Digest → e ≡ error.MessageDigest)
      → (Some t ≡ Some SigningTime → e ≡ error.SigningTime) → (Some t ≡ Some Signature → e ≡ error.BadSignature) → FirstFailing (PassesContent w o) content_tests t
  test_fails Digest e f p q s = digest_fails (subst (FailsContent w.digests w.good o) (p refl) f)
  test_fails SigningTime e f p q s = time_fails (subst (FailsContent w.digests w.good o) (q refl) f)
  test_fails Signature e f p q s = signature_fails (subst (FailsContent w.digests w.good o) (s refl) f)
