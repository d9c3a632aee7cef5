use Rattle.objects_payload.specs.RoaContents.{AreRoa}
use Rattle.objects_payload.proofs.of_bcder_content.InMode.{inside}
use Rattle.objects_payload.proofs.roa.attestation.RouteOriginAttestation.take_from.Goals as goal

pub returns-clause-reads : goal.returns-clause-reads
returns-clause-reads g c = inside {P = AreRoa} (record { each = λ p q r h. h }) c.take_sequence.ensures.ran
