-- What is signed: there is one message at most, and what its test answers is the last test of a content.
use Rattle.std.proofs.Common.{◌≡◌, ◌≢◌, inl, inr, ◌^◌, ◌<◌, ℕ, List, ◌∷◌, ◌++◌, length, Result, Ok, Err, sym, ap, ◌∙◌, subst}
use Rattle.std.specs.Prelude.{IfErr, OnOk}
use Rattle.bcder_tree.specs.declared.mode.Mode.TheVariants.{Ber, Der}
use Rattle.bcder_tree.proofs.Canonical.{spelled_length}
use Rattle.bcder_tree.proofs.Fronts.{length_bound}
use Rattle.objects_cms.specs.certs_x509.declared.errors.verification.VerificationError.{VerificationError}
use Rattle.objects_cms.specs.certs_basics.HandedIn.{Digests}
use Rattle.objects_cms.specs.certs_basics.Verdicts.{Verdicts}
use Rattle.objects_cms.specs.certs_extension.Cert.{CertValue}
use Rattle.objects_cms.specs.objects_payload.ObjectText.{IsSignedMessage, Signer}
use Rattle.objects_cms.specs.Signer.{SignerValue}
use Rattle.objects_cms.specs.Content.{FailsContent, FailsSignature, HasDigest, IsInTime, IsSigned, VerifiesContent, object_with}

abbrev with_size : Signer → List ℕ → List ℕ
with_size s size = 49 ∷ (size ++ s.attributes)

not_ber : Der ≢ Ber
not_ber e = cc

pub one_message : (s : Signer) (m n : List ℕ) → IsSignedMessage s m → IsSignedMessage s n → m ≡ n
one_message s m n p q = p.whole ∙ ap (with_size s) (spelled_length Der not_ber p.size q.size (length s.attributes) p.size_is q.size_is) ∙ sym q.whole

-- Its attributes are no more octets than a length states.
pub few_octets : (s : Signer) (m : List ℕ) → IsSignedMessage s m → length s.attributes < 2 ^ 32
few_octets s m p = (length_bound Der p.size (length s.attributes) p.size_is).1

-- Where the digest and the time are good, the test of the signature decides.
pub signature_decides : (d : Digests) (v : Verdicts) (c : CertValue) (s : SignerValue) (r : Result (Unit {0}) VerificationError) (content_type content : List ℕ)
    → HasDigest d (object_with content_type content c s) → IsInTime (object_with content_type content c s)
    → OnOk r ((t x : List ℕ) → IsSigned v (object_with t x c s)) → IfErr r (λ e. (t x : List ℕ) → FailsSignature v (object_with t x c s) e)
    → VerifiesContent d v (object_with content_type content c s) r
signature_decides d v c s (Ok x) content_type content h t good f =
    let g = good content_type content in
    record { digest = h; time = t; message = g.message; message_is = g.is; signature = g.good }
signature_decides d v c s (Err e) content_type content h t good f = elim (f content_type content) [
  | inl p ↦ subst (FailsContent d v (object_with content_type content c s)) (sym p.0) (h, (t, p.1))
  | inr p ↦ subst (FailsContent d v (object_with content_type content c s)) (sym p) (h, t)
]
