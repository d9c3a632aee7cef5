use Rattle.objects_cms.proofs.of_bcder_content.InMode.{inside}
use Rattle.objects_cms.specs.Frame.{IsString}
use Rattle.objects_cms.proofs.signed.content.take_explicit.Goals as goal

pub returns : goal.returns
returns g c = inside {P = IsString} (record { each = λ p q r h. h }) c.take_constructed_if.ensures.ran
