use Rattle.objects_payload.proofs.of_bcder_content.InMode.{inside}
use Rattle.objects_payload.specs.Fields.{IsNumber}
use Rattle.objects_payload.proofs.aspa.attestation.take_version.Goals as goal

pub returns : goal.returns
returns g c = inside {P = IsNumber} (record { each = λ p q r h. h }) c.take_constructed_if.ensures.ran
