use Rattle.std.proofs.Common.{rules}
use Rattle.resources.proofs.set.set.ResourceSet.is_empty.Goals as goal

pub returns-then-is_empty-2 : goal.returns-then-is_empty-2
returns-then-is_empty-2 c = rw (← c.self.view_is) (search rules)

pub returns-else-is_empty-2 : goal.returns-else-is_empty-2
returns-else-is_empty-2 c = rw (← c.self.view_is) (search rules)
