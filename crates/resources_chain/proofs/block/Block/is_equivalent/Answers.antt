use Rattle.std.proofs.Common.{refl}
use Rattle.resources_chain.proofs.RunLemmas.{both_ways, not_inside}
use Rattle.resources_chain.proofs.block.Block.is_equivalent.Goals as goal

pub returns-then-is_encompassed : goal.returns-then-is_encompassed
returns-then-is_encompassed g c = both_ways (c.if-is_encompassed.ensures.0 refl) c.is_encompassed-then-is_encompassed.ensures

pub returns-else-is_encompassed : goal.returns-else-is_encompassed
returns-else-is_encompassed g c = not_inside c.is_encompassed.result c.if-is_encompassed.false c.is_encompassed.ensures
