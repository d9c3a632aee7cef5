use Rattle.rpki_bundle.proofs.of_bcder_content.InMode.{inside}
use Rattle.rpki_bundle.specs.Bundle.{as_bundle, AreBundleFields}
use Rattle.rpki_bundle.specs.PartFields.{parts_fields}
use Rattle.rpki_bundle.proofs.Beginning.{opened}
use Rattle.rpki_bundle.proofs.Reading.{meaning}
use Rattle.rpki_bundle.proofs.whole.take_bundle.Goals as goal

pub returns-clause-reads : goal.returns-clause-reads
returns-clause-reads g c = meaning parts_fields as_bundle _ _ _ _ (inside {P = AreBundleFields} (record { each = λ p q r h. h.0 }) c.take_sequence.ensures.ran)

pub returns-clause-begins : goal.returns-clause-begins
returns-clause-begins g c = opened _ _ c.take_sequence.result (record { each = λ p q r h. h.1 }) c.take_sequence.ensures.ran c.take_sequence.ensures.memory
