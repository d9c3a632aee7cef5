use Rattle.objects_payload.specs.Families.{AreFamilyIn}
use Rattle.objects_payload.proofs.of_bcder_content.InMode.{inside_opt}
use Rattle.objects_payload.proofs.roa.families.RoaIpAddressFamily.take_opt_from.Goals as goal

pub returns : goal.returns
returns g c = inside_opt {P = AreFamilyIn} (record { each = λ p q r h. h }) c.take_opt_sequence.ensures.ran
