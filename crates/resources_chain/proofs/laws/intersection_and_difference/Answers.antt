use Rattle.resources_chain.proofs.SetLemmas.{both_or_only}
use Rattle.resources_chain.proofs.laws.intersection_and_difference.Goals as goal

pub returns : goal.returns
returns c = both_or_only
