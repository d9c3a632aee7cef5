use Rattle.std.proofs.Common.{rules}
use Rattle.resources.proofs.set.set.ResourceSetPartialEq.eq.Goals as goal

pub returns-then-eq-2-clause-set : goal.returns-then-eq-2-clause-set
returns-then-eq-2-clause-set c = rw (← c.self.view_is, ← c.other.view_is) (search rules)

pub returns-else-eq-2-clause-set : goal.returns-else-eq-2-clause-set
returns-else-eq-2-clause-set c = rw (← c.self.view_is, ← c.other.view_is) (search rules)
