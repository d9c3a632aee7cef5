use Rattle.std.proofs.Common.{rules}
use Rattle.bcder.proofs.of_bcder_content.Inside.{exact_opt_octets}
use Rattle.bcder.proofs.oid.content.Oid+Bytes.skip_opt_in.Goals as goal

pub returns-clause-reads : goal.returns-clause-reads
returns-clause-reads g c = exact_opt_octets (record { each = λ p q r mode m. search rules }) c.take_opt_primitive_if.ensures.ran
