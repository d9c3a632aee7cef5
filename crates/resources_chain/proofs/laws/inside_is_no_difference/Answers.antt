use Rattle.resources_chain.proofs.SetLemmas.{inside_exactly}
use Rattle.resources_chain.proofs.laws.inside_is_no_difference.Goals as goal

pub returns : goal.returns
returns c = inside_exactly
