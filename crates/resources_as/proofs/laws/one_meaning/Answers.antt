use Rattle.resources_as.specs.Meanings.{resources_one, set_one}
use Rattle.resources_as.proofs.laws.one_meaning.Goals as goal

pub returns-clause-set : goal.returns-clause-set
returns-clause-set c = set_one.one

pub returns-clause-resources : goal.returns-clause-resources
returns-clause-resources c = resources_one.one
