use Rattle.std.proofs.Common.{rules}
use Rattle.resources.proofs.set.set.ResourceSet.contains.Goals as goal

pub returns-then-contains-2 : goal.returns-then-contains-2
returns-then-contains-2 c = rw (← c.self.view_is, ← c.other.view_is) (search rules)

pub returns-else-contains-2 : goal.returns-else-contains-2
returns-else-contains-2 c = rw (← c.self.view_is, ← c.other.view_is) (search rules)
