use Rattle.objects_payload.proofs.of_bcder_content.InMode.{inside}
use Rattle.objects_payload.specs.Fields.{AreFields}
use Rattle.objects_payload.proofs.Contents.{aspa_reads}
use Rattle.objects_payload.proofs.aspa.attestation.AsProviderAttestation.take_from.Goals as goal

pub returns-clause-reads : goal.returns-clause-reads
returns-clause-reads g c = aspa_reads _ _ _ (inside {P = AreFields} (record { each = λ p q r h. h }) c.take_sequence.ensures.ran)
