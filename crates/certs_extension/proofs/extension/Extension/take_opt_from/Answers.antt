use Rattle.certs_extension.proofs.of_bcder_content.InMode.{inside_opt}
use Rattle.certs_extension.proofs.of_bcder_content.Meaning.{opt_meaning}
use Rattle.certs_extension.specs.Extensions.{as_extension, IsExtensionBody}
use Rattle.certs_extension.specs.Raw.{extension_fields}
use Rattle.certs_extension.proofs.extension.Extension.take_opt_from.Goals as goal

pub returns-clause-reads : goal.returns-clause-reads
returns-clause-reads g c = opt_meaning extension_fields as_extension _ _ _ _ _ (inside_opt {P = IsExtensionBody} (record { each = λ p q r h. h }) c.take_opt_sequence.ensures.ran)
