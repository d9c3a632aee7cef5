use Rattle.std.proofs.Common.{refl}
use Rattle.bcder_example.proofs.of_bcder_content.InMode.{begin, next, stop, next_opt, stop_opt, done, inside}
use Rattle.bcder_example.proofs.of_bcder_content.Unique.{octets_tagged}
use Rattle.bcder_example.specs.Logs.{AreEntries}
use Rattle.bcder_example.proofs.lists.take_log_fields.Goals as goal

pub returns-in_err-most : goal.returns-in_err-most
returns-in_err-most g c = stop_opt _ begin c.from_residual.ensures c.in_err-most.ensures.reads

pub returns-in_err-entries : goal.returns-in_err-entries
returns-in_err-entries g c = stop _ (next_opt _ begin (λ m. octets_tagged _ _) c.in_ok-most.ensures.reads) c.from_residual-in_err-entries.ensures (inside {P = AreEntries} (record { each = λ p q r h. h }) c.in_err-entries.ensures.ran)

pub returns : goal.returns
returns g c = done (next (next_opt _ begin (λ m. octets_tagged _ _) c.in_ok-most.ensures.reads) (inside {P = AreEntries} (record { each = λ p q r h. h }) c.in_ok-entries.ensures.ran)) refl
