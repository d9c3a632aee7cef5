-- What a signed object's signature says of its content, test by test, in their order (RFC 5652 5.4, 5.6; RFC 6488 3).
use Rattle.std.specs.Prelude.{◌≡◌, ◌⊎◌, ◌+◌, ◌-◌, ◌^◌, ℕ, min, true, List, Result, Ok, Err}
use Rattle.objects_cms.specs.certs_x509.declared.errors.verification.VerificationError.{VerificationError}
use Rattle.objects_cms.specs.certs_x509.declared.errors.verification.VerificationError.TheVariants as error
use Rattle.objects_cms.specs.certs_extension.Cert.{CertValue}
use Rattle.objects_cms.specs.certs_basics.HandedIn.{Digests}
use Rattle.objects_cms.specs.certs_basics.Verdicts.{Verdicts}
use Rattle.objects_cms.specs.objects_payload.ObjectText.{IsNotAfter, IsSignedMessage, Object, Sound, signer_of}
use Rattle.objects_cms.specs.Signer.{SignerValue, signer_fields}

-- The object of a content of that type, a certificate and a signer.
abbrev pub object_with : List ℕ → List ℕ → CertValue → SignerValue → Object
object_with content_type content c s = record {
  content_type = content_type;
  content = content;
  cert = c;
  signer = signer_of (signer_fields s);
}

-- The digest that is signed is the content's (RFC 5652 5.4, 11.2).
abbrev pub HasDigest : Digests → Object → Type 0
HasDigest d o = o.signer.digest ≡ d.sha256 o.content

-- The object wasn't signed after the certificate's validity.
abbrev pub IsInTime : Object → Type 0
IsInTime o = IsNotAfter o.signer.signing_time o.cert.tbs.not_after

-- The signature is good by the certificate's key, over the attributes as a SET (RFC 5652 5.4).
pub record IsSigned (v : Verdicts) (o : Object) : Type 0 where
  pub message : List ℕ
  pub is : IsSignedMessage o.signer message
  pub good : v o.cert.tbs.key o.signer.has_null message o.signer.signature ≡ true

-- The first test that fails, by the error that tells it. Memory is wanted only for the message whose signature is tested.
abbrev pub FailsContent : Digests → Verdicts → Object → VerificationError → Type 0
FailsContent d v o error.MessageDigest = HasDigest d o → ⊥
FailsContent d v o error.SigningTime = HasDigest d o × (IsInTime o → ⊥)
FailsContent d v o error.BadSignature = HasDigest d o × (IsInTime o × (IsSigned v o → ⊥))
FailsContent d v o error.Memory = HasDigest d o × IsInTime o
FailsContent d v o error.NotYetValid = ⊥
FailsContent d v o error.Expired = ⊥
FailsContent d v o error.AuthorityKeyMissing = ⊥
FailsContent d v o error.AuthorityKeyMismatch = ⊥
FailsContent d v o error.AiaMissing = ⊥
FailsContent d v o (error.Inherited kind) = ⊥
FailsContent d v o (error.Overclaim numbers) = ⊥
FailsContent d v o error.HashMismatch = ⊥
FailsContent d v o error.Uncovered = ⊥
FailsContent d v o error.Refused = ⊥

-- The object is sound, or the error tells why it isn't.
abbrev pub VerifiesContent : Digests → Verdicts → Object → Result (Unit {0}) VerificationError
    → Type 0
VerifiesContent d v o (Ok x) = Sound d v o
VerifiesContent d v o (Err e) = FailsContent d v o e

-- The last test alone.
abbrev pub FailsSignature : Verdicts → Object → VerificationError → Type 0
FailsSignature v o e = ((e ≡ error.BadSignature) × (IsSigned v o → ⊥)) ⊎ (e ≡ error.Memory)

-- A verifier was asked once or not at all.
abbrev pub AsksOnce : ℕ → ℕ → Type 0
AsksOnce before after = (after ≡ before) ⊎ (after ≡ min (before + 1) (2 ^ 64 - 1))
