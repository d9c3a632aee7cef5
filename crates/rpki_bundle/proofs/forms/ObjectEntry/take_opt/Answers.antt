use Rattle.rpki_bundle.proofs.of_bcder_content.InMode.{inside_opt}
use Rattle.rpki_bundle.specs.Bundle.{as_object, AreObjectFields}
use Rattle.rpki_bundle.specs.PartFields.{object_fields}
use Rattle.rpki_bundle.proofs.Reading.{opt_meaning}
use Rattle.rpki_bundle.proofs.forms.ObjectEntry.take_opt.Goals as goal

pub returns-clause-reads : goal.returns-clause-reads
returns-clause-reads g c = opt_meaning object_fields as_object _ _ _ _ _ (inside_opt {P = AreObjectFields} (record { each = λ p q r h. h }) c.take_opt_sequence.ensures.ran)
