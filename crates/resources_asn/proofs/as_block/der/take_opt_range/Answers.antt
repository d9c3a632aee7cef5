use Rattle.resources_asn.proofs.of_bcder_content.Inside.{exact_opt}
use Rattle.resources_asn.proofs.as_block.der.take_opt_range.Goals as goal

pub returns-clause-reads : goal.returns-clause-reads
returns-clause-reads g c = exact_opt (record { each = λ p q r m h. h.0 }) c.take_opt_sequence.ensures.ran
