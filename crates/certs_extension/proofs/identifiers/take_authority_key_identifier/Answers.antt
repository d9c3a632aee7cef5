use Rattle.certs_extension.proofs.of_bcder_content.Choices.{as_reads}
use Rattle.certs_extension.proofs.of_bcder_content.InMode.{inside}
use Rattle.certs_extension.specs.Names.{only}
use Rattle.certs_extension.specs.Values.{IsAuthorityBody, alone}
use Rattle.certs_extension.proofs.identifiers.take_authority_key_identifier.Goals as goal

pub returns-clause-reads : goal.returns-clause-reads
returns-clause-reads g c = as_reads alone _ only _ _ _ (inside {P = IsAuthorityBody} (record { each = λ p q r h. h }) c.take_sequence.ensures.ran)
