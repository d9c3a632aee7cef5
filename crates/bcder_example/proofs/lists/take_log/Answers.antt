use Rattle.bcder_example.proofs.of_bcder_content.InMode.{inside}
use Rattle.bcder_example.specs.Logs.{IsLogBody}
use Rattle.bcder_example.proofs.lists.take_log.Goals as goal

pub returns-clause-reads : goal.returns-clause-reads
returns-clause-reads g c = inside {P = IsLogBody} (record { each = λ p q r h. h }) c.take_sequence.ensures.ran
