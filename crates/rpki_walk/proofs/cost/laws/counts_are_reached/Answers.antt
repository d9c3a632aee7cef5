use Rattle.rpki_walk.proofs.CostLaws.{counts_are_reached}
use Rattle.rpki_walk.proofs.cost.laws.counts_are_reached.Goals as goal

pub returns : goal.returns
returns c = counts_are_reached
