use Rattle.certs_cert.proofs.of_bcder_content.InMode.{inside}
use Rattle.certs_cert.specs.Reading.{IsNumber}
use Rattle.certs_cert.proofs.reading.take_version.Goals as goal

pub returns : goal.returns
returns g c = inside {P = IsNumber} (record { each = λ p q r h. h }) c.take_constructed_if.ensures.ran
