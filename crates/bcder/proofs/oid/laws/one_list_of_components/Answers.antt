use Rattle.bcder.proofs.Numbers.{one_list}
use Rattle.bcder.proofs.Parts.{has_components}
use Rattle.bcder.proofs.oid.laws.one_list_of_components.Goals as goal

pub returns-clause-there : goal.returns-clause-there
returns-clause-there c = has_components

pub returns-clause-one : goal.returns-clause-one
returns-clause-one c = one_list
