use Rattle.objects_rta_valid.proofs.Neighbours.{path_from}
use Rattle.objects_rta_valid.proofs.paths.laws.some_path.Goals as goal

pub returns : goal.returns
returns c = path_from
