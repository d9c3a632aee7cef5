use Rattle.certs_name.specs.bcder_tree.declared.mode.Mode.{Mode}
use Rattle.certs_name.proofs.of_bcder_content.InMode.{inside_opt}
use Rattle.certs_name.specs.AnyNames.{AreAnyAttributes}
use Rattle.certs_name.proofs.skim.skip_opt_relative_name.Goals as goal

pub returns : goal.returns
returns g c = inside_opt {P = λ (m : Mode). AreAnyAttributes} (record { each = λ p q r h. h }) c.take_opt_set.ensures.ran
