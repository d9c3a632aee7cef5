use Rattle.rpki_bundle.proofs.of_bcder_content.InMode.{inside_opt}
use Rattle.rpki_bundle.specs.Bundle.{as_locator, AreLocatorFields}
use Rattle.rpki_bundle.specs.PartFields.{locator_fields}
use Rattle.rpki_bundle.proofs.Reading.{opt_meaning}
use Rattle.rpki_bundle.proofs.forms.LocatorEntry.take_opt.Goals as goal

pub returns-clause-reads : goal.returns-clause-reads
returns-clause-reads g c = opt_meaning locator_fields as_locator _ _ _ _ _ (inside_opt {P = AreLocatorFields} (record { each = λ p q r h. h }) c.take_opt_sequence.ensures.ran)
