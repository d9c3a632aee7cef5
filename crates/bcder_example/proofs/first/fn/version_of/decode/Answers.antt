use Rattle.bcder_example.specs.Versions.{IsVersionBody}
use Rattle.bcder_example.proofs.of_bcder_content.InMode.{inside}
use Rattle.bcder_example.proofs.first.fn.version_of.decode.Goals as goal

pub returns : goal.returns
returns c = inside {P = IsVersionBody} (record { each = λ p q r h. h }) c.take_sequence.ensures.ran
