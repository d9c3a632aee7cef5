use Rattle.resources_as.proofs.of_bcder_content.Forests.{begin, next, stop, done}
use Rattle.resources_as.proofs.resources.fn.AsResources.take_from.fn.take_sequence.take_constructed_if.Goals as goal

pub returns-in_err-choice : goal.returns-in_err-choice
returns-in_err-choice g c = stop _ _ _ _ (begin _ _) c.from_residual.ensures c.in_err-choice.ensures

pub returns : goal.returns
returns g c = done (next (begin _ _) c.in_ok-choice.ensures)
