use Rattle.std.proofs.Common.{ℕ, rules}
use Rattle.certs_name.specs.bcder_tree.Tags.{integer_tag}
use Rattle.certs_name.specs.bcder_content.Grammar.{OctetsOf}
use Rattle.certs_name.proofs.of_bcder_content.Inside.{exact_octets}
use Rattle.certs_basics.specs.Basics.{IsSerial}
use Rattle.certs_name.specs.Serials.{IsSerialContent}
use Rattle.certs_name.proofs.Readings.{reads_same}
use Rattle.certs_name.proofs.serial.Serial.take_from.Goals as goal

pub returns-clause-reads : goal.returns-clause-reads
returns-clause-reads g c =
    reads_same (λ (n : ℕ). n) {P = OctetsOf integer_tag IsSerialContent} {Q = IsSerial} _ _ c.take_primitive_if.result
    (λ t n p. record { is = record { content = p.content; whole = p.whole; is = p.is.is }; meets = p.is.small })
    (λ t n p. record { content = p.is.content; whole = p.is.whole; is = record { is = p.is.is; small = p.meets } })
    (exact_octets (record { each = λ p q r mode m. search rules }) c.take_primitive_if.ensures.ran)
