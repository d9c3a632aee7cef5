use Rattle.resources_as.proofs.Again.{means_just}
use Rattle.resources_as.proofs.laws.what_is_written_means_just_these.Goals as goal

pub returns : goal.returns
returns c = means_just
