use Rattle.certs_name.specs.bcder_tree.declared.mode.Mode.{Mode}
use Rattle.certs_name.proofs.of_bcder_content.InMode.{inside}
use Rattle.certs_name.specs.AnyNames.{AreAnyRelativeNames}
use Rattle.certs_name.proofs.skim.skip_name.Goals as goal

pub returns-clause-reads : goal.returns-clause-reads
returns-clause-reads g c = inside {P = λ (m : Mode). AreAnyRelativeNames} (record { each = λ p q r h. h }) c.take_sequence.ensures.ran
