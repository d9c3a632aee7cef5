use Rattle.resources_as.proofs.Again.{resources_fit, set_fits}
use Rattle.resources_as.proofs.laws.resources_that_are_read_fit.Goals as goal

pub returns-clause-resources : goal.returns-clause-resources
returns-clause-resources c = resources_fit

pub returns-clause-set : goal.returns-clause-set
returns-clause-set c = set_fits
