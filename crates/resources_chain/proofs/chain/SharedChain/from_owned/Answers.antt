use Rattle.resources_chain.proofs.SetLemmas.{empty_is}
use Rattle.resources_chain.proofs.chain.SharedChain.from_owned.Goals as goal

pub returns-then-is_empty-clause-runs : goal.returns-then-is_empty-clause-runs
returns-then-is_empty-clause-runs g c = empty_is c.empty.ensures c.as_chain.ensures.runs c.as_chain.ensures.maximal c.if-is_empty.ensures
