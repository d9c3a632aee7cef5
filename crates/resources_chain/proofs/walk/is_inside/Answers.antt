use Rattle.resources_chain.proofs.WalkLemmas.{inside_told}
use Rattle.resources_chain.proofs.walk.is_inside.Goals as goal

pub returns : goal.returns
returns g c = inside_told g.B.Block.run c.from_outside.result.0.now c.is_empty.result c.from_outside.ensures.parts c.from_outside.ensures.stops c.is_empty.ensures
