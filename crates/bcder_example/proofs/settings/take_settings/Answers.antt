use Rattle.bcder_example.specs.Settings.{IsSettingsBody}
use Rattle.bcder_example.proofs.of_bcder_content.InMode.{inside}
use Rattle.bcder_example.proofs.settings.take_settings.Goals as goal

pub returns-clause-reads : goal.returns-clause-reads
returns-clause-reads g c = inside {P = IsSettingsBody} (record { each = λ p q r h. h }) c.take_sequence.ensures.ran
