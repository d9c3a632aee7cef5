use Rattle.objects_rta_valid.proofs.Neighbours.{path_steps}
use Rattle.objects_rta_valid.proofs.paths.laws.neighbours_are_below.Goals as goal

pub returns : goal.returns
returns c = path_steps
