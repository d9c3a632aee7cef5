use Rattle.objects_cms.proofs.of_bcder_content.InMode.{inside_opt}
use Rattle.objects_valid.specs.Reading.{IsFamiliesContent}
use Rattle.objects_valid.proofs.stated.take_opt_families.Goals as goal

pub returns : goal.returns
returns g c = inside_opt {P = IsFamiliesContent} (record { each = λ p q r h. h }) c.take_opt_constructed_if.ensures.ran
