use Rattle.bcder_example.proofs.of_bcder_content.InMode.{inside}
use Rattle.bcder_example.specs.Signed.{body_content}
use Rattle.bcder_example.proofs.signed.take_body.Goals as goal

pub returns-clause-reads : goal.returns-clause-reads
returns-clause-reads g c = inside {P = body_content.reads} (record { each = λ p q r h. h }) c.take_sequence.ensures.ran
