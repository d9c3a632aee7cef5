use Rattle.rpki_walk.proofs.CostLaws.{counts_are_exact}
use Rattle.rpki_walk.proofs.cost.laws.counts_are_exact.Goals as goal

pub returns : goal.returns
returns c = counts_are_exact
