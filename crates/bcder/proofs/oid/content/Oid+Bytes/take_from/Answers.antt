use Rattle.std.proofs.Common.{rules}
use Rattle.bcder.proofs.of_bcder_content.Inside.{exact_octets}
use Rattle.bcder.proofs.of_bcder_content.Wants.{octets_want}
use Rattle.bcder.proofs.oid.content.Oid+Bytes.take_from.Goals as goal

pub returns-clause-reads : goal.returns-clause-reads
returns-clause-reads g c = exact_octets (record { each = λ p q r mode m. search rules }) c.take_primitive_if.ensures.ran

pub returns-clause-memory : goal.returns-clause-memory
returns-clause-memory g c = octets_want _ _ c.take_primitive_if.result (record { each = λ p q r mode m. search rules }) c.take_primitive_if.ensures.memory
