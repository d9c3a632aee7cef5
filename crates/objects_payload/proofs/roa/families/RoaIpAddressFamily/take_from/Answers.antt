use Rattle.objects_payload.specs.Families.{AreFamilyIn}
use Rattle.objects_payload.proofs.of_bcder_content.InMode.{inside}
use Rattle.objects_payload.proofs.roa.families.RoaIpAddressFamily.take_from.Goals as goal

pub returns : goal.returns
returns g c = inside {P = AreFamilyIn} (record { each = λ p q r h. h }) c.take_sequence.ensures.ran
