use Rattle.certs_extension.specs.bcder_content.Grammar.{End, Then}
use Rattle.certs_extension.proofs.of_bcder_content.Choices.{as_reads}
use Rattle.certs_extension.proofs.of_bcder_content.InMode.{inside}
use Rattle.certs_extension.specs.Names.{only}
use Rattle.certs_extension.specs.Grammars.{IsIssuer, one_field}
use Rattle.certs_extension.proofs.access.authority.take_authority_access.Goals as goal

pub returns-clause-reads : goal.returns-clause-reads
returns-clause-reads g c = as_reads one_field _ only _ _ _ (inside {P = λ m. Then (IsIssuer m) End} (record { each = λ p q r h. h }) c.take_sequence.ensures.ran)
