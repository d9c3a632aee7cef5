use Rattle.certs_name.specs.bcder_tree.declared.mode.Mode.{Mode}
use Rattle.certs_name.proofs.of_bcder_content.InMode.{inside_opt}
use Rattle.certs_name.specs.Inspected.{AreSeenAttributes}
use Rattle.certs_name.proofs.inspect.take_opt_relative_name.Goals as goal

pub returns-clause-reads : goal.returns-clause-reads
returns-clause-reads g c = inside_opt {P = λ (m : Mode). AreSeenAttributes c.args.strict} (record { each = λ p q r h. h.0 }) c.take_opt_set.ensures.ran
