use Rattle.bcder_example.proofs.of_bcder_content.InMode.{inside_opt}
use Rattle.bcder_example.specs.Logs.{IsEntryBody}
use Rattle.bcder_example.proofs.lists.take_opt_entry.Goals as goal

pub returns : goal.returns
returns g c = inside_opt {P = IsEntryBody} (record { each = λ p q r h. h }) c.take_opt_sequence.ensures.ran
