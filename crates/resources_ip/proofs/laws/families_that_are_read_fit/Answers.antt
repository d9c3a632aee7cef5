use Rattle.resources_ip.proofs.Fitting.{families_fit}
use Rattle.resources_ip.proofs.laws.families_that_are_read_fit.Goals as goal

pub returns-clause-v4 : goal.returns-clause-v4
returns-clause-v4 c = λ m t x p. (families_fit m t x p).0

pub returns-clause-v6 : goal.returns-clause-v6
returns-clause-v6 c = λ m t x p. (families_fit m t x p).1

pub returns-clause-any : goal.returns-clause-any
returns-clause-any c = λ m t x p. (families_fit m t x p).2
