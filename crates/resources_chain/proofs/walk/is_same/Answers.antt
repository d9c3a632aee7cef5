use Rattle.std.proofs.Common.{refl}
use Rattle.resources_chain.proofs.RunLemmas.{both_ways, not_inside}
use Rattle.resources_chain.proofs.walk.is_same.Goals as goal

pub returns-then-is_inside : goal.returns-then-is_inside
returns-then-is_inside g c = both_ways (c.if-is_inside.ensures.0 refl) c.is_inside-then-is_inside.ensures

pub returns-else-is_inside : goal.returns-else-is_inside
returns-else-is_inside g c = not_inside c.is_inside.result c.if-is_inside.false c.is_inside.ensures
