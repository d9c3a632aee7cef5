use Rattle.certs_extension.proofs.of_bcder_content.InMode.{inside}
use Rattle.certs_extension.specs.Purposes.{ArePurposes}
use Rattle.certs_extension.proofs.purposes.ExtendedKeyUsage.take_from.Goals as goal

pub returns-clause-reads : goal.returns-clause-reads
returns-clause-reads g c = inside {P = ArePurposes} (record { each = λ p q r h. h }) c.take_sequence.ensures.ran
