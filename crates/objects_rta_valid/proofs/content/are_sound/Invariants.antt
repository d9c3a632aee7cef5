use Rattle.std.proofs.Common.{◌≡◌, ℕ, ◌+◌, ◌≤◌, length}
use Rattle.std.specs.Prelude.{◌↔◌}
use Rattle.std.specs.List.{AllZip}
use Rattle.certs_verify.specs.certs_key.Digesting.{digests_of}
use Rattle.objects_rta.specs.objects_cms.Signer.{SignerValue, signer_fields}
use Rattle.objects_rta.specs.objects_payload.ObjectText.{signer_of}
use Rattle.objects_rta_valid.specs.Validity.{IsSoundAt}
use Rattle.objects_rta_valid.proofs.content.are_sound.Given as goal

abbrev pub invariant-loop-signer : goal.invariant-loop-signer
invariant-loop-signer g l = record {
  sound : AllZip (λ (s : SignerValue) (place : ℕ). IsSoundAt (digests_of g.D.Digester.sha256_digest g.D.Digester.sha1_digest l.fn.digester) (g.V.Verifier.says l.fn.verifier) l.fn.signed (signer_of (signer_fields s)) place) l.rest l.ahead ↔ AllZip (IsSoundAt (digests_of g.D.Digester.sha256_digest g.D.Digester.sha1_digest l.fn.digester) (g.V.Verifier.says l.fn.verifier) l.fn.signed) l.fn.signed.signers l.fn.places;
  same : g.V.Verifier.says l.verifier ≡ g.V.Verifier.says l.fn.verifier;
  asked : g.V.Verifier.count l.verifier + length l.rest ≤ g.V.Verifier.count l.fn.verifier + length l.fn.signed.signers;
}

abbrev pub decreases-loop-signer : goal.decreases-loop-signer
decreases-loop-signer g l = length l.rest
