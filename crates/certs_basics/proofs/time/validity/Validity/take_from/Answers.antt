use Rattle.certs_basics.proofs.of_bcder_content.Inside.{exact_each}
use Rattle.certs_basics.proofs.time.validity.Validity.take_from.Goals as goal

pub returns-clause-reads : goal.returns-clause-reads
returns-clause-reads g c = exact_each (record { each = λ p q r m h. h.0 }) c.take_sequence.ensures.ran
