use Rattle.objects_payload.proofs.of_bcder_content.Decoding.{exact_decode}
use Rattle.objects_payload.proofs.Contents.{decodes_front}
use Rattle.objects_payload.proofs.aspa.attestation.AsProviderAttestation.decode.Goals as goal

pub returns : goal.returns
returns g c = decodes_front _ _ (exact_decode (record { each = λ p q r m h. h }) c.decode.ensures.decoded)
