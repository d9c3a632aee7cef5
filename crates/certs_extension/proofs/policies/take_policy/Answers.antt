use Rattle.certs_extension.proofs.of_bcder_content.Choices.{as_reads}
use Rattle.certs_extension.proofs.of_bcder_content.InMode.{inside}
use Rattle.certs_extension.specs.Names.{only}
use Rattle.certs_extension.specs.Values.{IsPolicyBody, alone}
use Rattle.certs_extension.proofs.policies.take_policy.Goals as goal

pub returns : goal.returns
returns g c = as_reads alone _ only _ _ _ (inside {P = IsPolicyBody} (record { each = λ p q r h. h }) c.take_sequence.ensures.ran)
