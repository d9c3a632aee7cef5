use Rattle.objects_rta_valid.proofs.KeptPaths.{path_inside, path_some}
use Rattle.objects_rta_valid.proofs.paths.laws.places_are_inside.Goals as goal

pub returns-clause-some : goal.returns-clause-some
returns-clause-some c = path_some

pub returns-clause-inside : goal.returns-clause-inside
returns-clause-inside c = path_inside
