use Rattle.resources_chain.proofs.SetLemmas.{equal_sets}
use Rattle.resources_chain.proofs.laws.equal_lists_are_equal_sets.Goals as goal

pub returns : goal.returns
returns c = equal_sets
