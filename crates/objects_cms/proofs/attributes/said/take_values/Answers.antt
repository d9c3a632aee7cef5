use Rattle.objects_cms.specs.bcder_tree.declared.mode.Mode.{Mode}
use Rattle.objects_cms.specs.Said.{AreOneValue}
use Rattle.objects_cms.proofs.of_bcder_content.InMode.{inside}
use Rattle.objects_cms.proofs.attributes.said.take_values.Goals as goal

pub returns : goal.returns
returns g c = inside {P = λ (m : Mode). AreOneValue m c.args.kind} (record { each = λ p q r h. h }) c.take_set.ensures.ran
