use Rattle.certs_extension.proofs.of_bcder_content.Choices.{as_reads}
use Rattle.certs_extension.proofs.of_bcder_content.InMode.{inside}
use Rattle.certs_extension.specs.Names.{only}
use Rattle.certs_extension.specs.Values.{ArePoliciesBody, alone}
use Rattle.certs_extension.proofs.policies.take_policies.Goals as goal

pub returns-clause-reads : goal.returns-clause-reads
returns-clause-reads g c = as_reads alone _ only _ _ _ (inside {P = ArePoliciesBody} (record { each = λ p q r h. h }) c.take_sequence.ensures.ran)
