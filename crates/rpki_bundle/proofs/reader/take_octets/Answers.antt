use Rattle.rpki_bundle.proofs.of_bcder_content.Choices.{gives_same, stop_value}
use Rattle.rpki_bundle.proofs.reader.take_octets.Goals as goal

pub returns-in_err-string-clause-reads : goal.returns-in_err-string-clause-reads
returns-in_err-string-clause-reads g c = stop_value _ _ _ _ c.from_residual.ensures (λ l. l) c.in_err-string.ensures.reads

pub returns-clause-reads : goal.returns-clause-reads
returns-clause-reads g c = gives_same c.into_bytes.ensures c.in_ok-string.ensures.reads
