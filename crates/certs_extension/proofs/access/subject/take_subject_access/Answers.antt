use Rattle.certs_extension.proofs.of_bcder_content.InMode.{inside}
use Rattle.certs_extension.specs.Access.{IsAccessBody}
use Rattle.certs_extension.proofs.access.subject.take_subject_access.Goals as goal

pub returns-clause-reads : goal.returns-clause-reads
returns-clause-reads g c = inside {P = IsAccessBody} (record { each = λ p q r h. h }) c.take_sequence.ensures.ran
