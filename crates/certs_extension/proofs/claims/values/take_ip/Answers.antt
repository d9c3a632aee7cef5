use Rattle.certs_extension.specs.resources_ip.Reading.{family_choices}
use Rattle.certs_extension.proofs.of_bcder_content.Choices.{stop_value}
use Rattle.certs_extension.proofs.Filling.{under_lacks}
use Rattle.certs_extension.proofs.claims.values.take_ip.Goals as goal

pub returns-in_err-read : goal.returns-in_err-read
returns-in_err-read g c = stop_value _ _ _ _ c.from_residual.ensures (λ l. under_lacks family_choices l) c.in_err-read.ensures.reads
