use Rattle.certs_key.proofs.of_bcder_content.InMode.{inside}
use Rattle.certs_key.specs.certs_basics.Keys.{IsFormatBody}
use Rattle.certs_key.proofs.format.take_format.Goals as goal

pub returns-clause-reads : goal.returns-clause-reads
returns-clause-reads g c = inside {P = λ m. IsFormatBody} (record { each = λ p q r h. h }) c.take_sequence.ensures.ran
