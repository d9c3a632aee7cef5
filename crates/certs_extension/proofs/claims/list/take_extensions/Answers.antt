use Rattle.certs_extension.specs.bcder_tree.declared.mode.Mode.{Mode}
use Rattle.certs_extension.specs.bcder_content.Words.{Gathers}
use Rattle.certs_extension.proofs.of_bcder_content.InMode.{inside}
use Rattle.certs_extension.specs.Extensions.{IsExtension}
use Rattle.certs_extension.specs.Slots.{AreSlots}
use Rattle.certs_extension.proofs.claims.list.take_extensions.Goals as goal

pub returns-clause-reads : goal.returns-clause-reads
returns-clause-reads g c = inside {P = λ (m : Mode). Gathers (IsExtension m) AreSlots} (record { each = λ p q r h. h }) c.take_sequence.ensures.ran
