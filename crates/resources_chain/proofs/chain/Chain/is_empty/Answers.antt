use Rattle.resources_chain.proofs.SetLemmas.{none_told}
use Rattle.resources_chain.proofs.chain.Chain.is_empty.Goals as goal

pub returns : goal.returns
returns g c = none_told g.B.Block.run c.self.inside.blocks.now c.args.self.now c.is_empty.result c.self.view_is c.self.invariant c.is_empty.ensures
