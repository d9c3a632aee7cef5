use Rattle.certs_crl.proofs.of_bcder_content.InMode.{inside}
use Rattle.certs_crl.specs.Reading.{IsPair}
use Rattle.certs_crl.proofs.extensions.take_sequence.Goals as goal

pub returns : goal.returns
returns g c = inside {P = IsPair} (record { each = λ p q r h. h }) c.take_sequence.ensures.ran
