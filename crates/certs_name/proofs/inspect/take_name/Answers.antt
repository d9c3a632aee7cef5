use Rattle.certs_name.specs.bcder_tree.declared.mode.Mode.{Mode}
use Rattle.certs_name.proofs.of_bcder_content.InMode.{inside}
use Rattle.certs_name.specs.Inspected.{AreSeenRelativeNames}
use Rattle.certs_name.proofs.inspect.take_name.Goals as goal

pub returns-clause-reads : goal.returns-clause-reads
returns-clause-reads g c = inside {P = λ (m : Mode). AreSeenRelativeNames c.args.strict} (record { each = λ p q r h. h.0 }) c.take_sequence.ensures.ran
