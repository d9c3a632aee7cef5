use Rattle.std.proofs.Common.{List, ℕ}
use Rattle.bcder_example.proofs.of_bcder_content.Choices.{as_reads}
use Rattle.bcder_example.proofs.of_bcder_content.InMode.{inside}
use Rattle.bcder_example.specs.Signed.{algorithm_content, only}
use Rattle.bcder_example.proofs.signed.take_algorithm.Goals as goal

pub returns : goal.returns
returns g c = as_reads (λ id. only id.0) _ (λ (x : List ℕ × Unit {0}). x.0) _ _ _ (inside {P = algorithm_content.reads} (record { each = λ p q r h. h }) c.take_sequence.ensures.ran)
