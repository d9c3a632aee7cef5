use Rattle.resources_as.proofs.Again.{set_again}
use Rattle.resources_as.proofs.laws.a_set_is_read_again.Goals as goal

pub returns : goal.returns
returns c = set_again
