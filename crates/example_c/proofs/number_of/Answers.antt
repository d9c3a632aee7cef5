use Rattle.bcder.proofs.of_bcder_content.Decoding.{exact_decode}
use Rattle.example_c.proofs.Refusals.{no_want}
use Rattle.example_c.proofs.number_of.Goals as goal

pub returns-clause-reads : goal.returns-clause-reads
returns-clause-reads c = exact_decode (record { each = λ p q r m h. h.0 }) c.decode.ensures.decoded

pub returns-clause-no_memory : goal.returns-clause-no_memory
returns-clause-no_memory c = no_want _ c.decode.result (record { each = λ p q r h. h.1 }) c.decode.ensures.memory
