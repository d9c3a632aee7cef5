use Rattle.resources_ip.specs.Meanings.{choice_one, list_one, one_of_families}
use Rattle.resources_ip.proofs.laws.one_meaning.Goals as goal

pub returns-clause-families : goal.returns-clause-families
returns-clause-families c = one_of_families

pub returns-clause-choice : goal.returns-clause-choice
returns-clause-choice c = λ m family. (choice_one family).one

pub returns-clause-list : goal.returns-clause-list
returns-clause-list c = λ m family. (list_one family).one
