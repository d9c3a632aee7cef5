use Rattle.certs_extension.proofs.of_bcder_content.InMode.{inside_opt}
use Rattle.certs_extension.proofs.of_bcder_content.Meaning.{opt_meaning}
use Rattle.certs_extension.specs.Access.{as_entry, IsEntryBody}
use Rattle.certs_extension.specs.Found.{description_fields}
use Rattle.certs_extension.proofs.access.subject.take_opt_description.Goals as goal

pub returns : goal.returns
returns g c = opt_meaning description_fields as_entry _ _ _ _ _ (inside_opt {P = IsEntryBody} (record { each = λ p q r h. h }) c.take_opt_sequence.ensures.ran)
