use Rattle.std.proofs.Common.{rules}
use Rattle.resources.proofs.set.diff.ResourceDiff.is_empty.Goals as goal

pub returns-then-is_empty : goal.returns-then-is_empty
returns-then-is_empty c = rw (← c.self.view_is) (search rules)

pub returns-else-is_empty : goal.returns-else-is_empty
returns-else-is_empty c = rw (← c.self.view_is) (search rules)
