use Rattle.certs_extension.proofs.of_bcder_content.Choices.{stop_value}
use Rattle.certs_extension.proofs.Filling.{under_lacks}
use Rattle.certs_extension.proofs.claims.values.take_asn.Goals as goal

pub returns-in_err-read : goal.returns-in_err-read
returns-in_err-read g c = stop_value _ _ _ _ c.from_residual.ensures (λ l. under_lacks (λ x. x) l) c.in_err-read.ensures.reads
