use Rattle.resources_as.proofs.of_bcder_content.Forests.{begin, next, stop, done}
use Rattle.resources_as.proofs.of_bcder_content.Inside.{exact_each}
use Rattle.resources_as.proofs.resources.fn.AsResources.take_from.take_sequence.Goals as goal

pub returns-in_err-choice : goal.returns-in_err-choice
returns-in_err-choice g c = stop _ _ _ _ (begin _ _) c.from_residual.ensures (exact_each (record { each = λ p q r m h. h }) c.in_err-choice.ensures.ran)

pub returns : goal.returns
returns g c = done (next (begin _ _) (exact_each (record { each = λ p q r m h. h }) c.in_ok-choice.ensures.ran))
