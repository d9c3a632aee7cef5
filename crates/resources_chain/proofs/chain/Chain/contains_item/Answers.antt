use Rattle.resources_chain.proofs.PlaceLemmas.{found_told}
use Rattle.resources_chain.proofs.chain.Chain.contains_item.Goals as goal

pub returns : goal.returns
returns g c = found_told c.is_some.result c.find.result c.args.self.now (g.B.Block.place c.args.item) c.find.ensures.place c.is_some.ensures
