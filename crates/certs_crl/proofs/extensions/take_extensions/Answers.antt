use Rattle.certs_crl.proofs.of_bcder_content.InMode.{inside}
use Rattle.certs_crl.specs.Reading.{IsPaired}
use Rattle.certs_crl.proofs.extensions.take_extensions.Goals as goal

pub returns : goal.returns
returns g c = inside {P = IsPaired} (record { each = λ p q r h. h }) c.take_constructed_if.ensures.ran
