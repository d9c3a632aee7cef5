use Rattle.bcder_example.specs.Notices.{notice_body}
use Rattle.bcder_example.proofs.of_bcder_content.InMode.{inside}
use Rattle.bcder_example.proofs.notice.Notice.take_from.Goals as goal

pub returns-clause-reads : goal.returns-clause-reads
returns-clause-reads g c = inside {P = notice_body.reads} (record { each = λ p q r h. h }) c.take_sequence.ensures.ran
