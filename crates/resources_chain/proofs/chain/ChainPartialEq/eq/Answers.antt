use Rattle.resources_chain.proofs.SetLemmas.{same_told_at}
use Rattle.resources_chain.proofs.chain.ChainPartialEq.eq.Goals as goal

pub returns-clause-value : goal.returns-clause-value
returns-clause-value g c = same_told_at c.is_same.result c.self.view_is c.other.view_is c.self.invariant c.other.invariant c.is_same.ensures
