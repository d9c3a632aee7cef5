use Rattle.certs_key.proofs.of_bcder_content.InMode.{inside}
use Rattle.certs_key.specs.Reading.{AreParts}
use Rattle.certs_key.proofs.taken.take_parts.Goals as goal

pub returns : goal.returns
returns g c = inside {P = AreParts} (record { each = λ p q r h. h }) c.take_sequence.ensures.ran
