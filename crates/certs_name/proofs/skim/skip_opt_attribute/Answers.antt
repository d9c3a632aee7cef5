use Rattle.certs_name.proofs.of_bcder_content.InMode.{inside_opt}
use Rattle.certs_name.specs.AnyNames.{IsAnyAttributeBody}
use Rattle.certs_name.proofs.skim.skip_opt_attribute.Goals as goal

pub returns : goal.returns
returns g c = inside_opt {P = IsAnyAttributeBody} (record { each = λ p q r h. h }) c.take_opt_sequence.ensures.ran
