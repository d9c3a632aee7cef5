use Rattle.bcder_octets.proofs.of_bcder_content.Kept.{exact_capture}
use Rattle.bcder_octets.proofs.reading.capture_parts.Goals as goal

pub returns : goal.returns
returns g c = exact_capture (record { each = λ p q r m h. h }) c.capture.ensures.captures
