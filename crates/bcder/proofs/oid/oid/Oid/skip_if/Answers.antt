use Rattle.std.proofs.Common.{rules}
use Rattle.bcder.proofs.of_bcder_content.Inside.{exact_octets}
use Rattle.bcder.proofs.oid.oid.Oid.skip_if.Goals as goal

pub returns-clause-reads : goal.returns-clause-reads
returns-clause-reads g c = rw (← c.as_slice-expected.ensures) (exact_octets (record { each = λ p q r mode m. search rules }) c.take_primitive_if.ensures.ran)
