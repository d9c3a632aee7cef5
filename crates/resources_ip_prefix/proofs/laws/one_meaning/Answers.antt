use Rattle.resources_ip_prefix.specs.Meanings.{address_one, family_one}
use Rattle.resources_ip_prefix.proofs.laws.one_meaning.Goals as goal

pub returns-clause-family : goal.returns-clause-family
returns-clause-family c = λ m. family_one.one

pub returns-clause-address : goal.returns-clause-address
returns-clause-address c = λ m family. (address_one family).one
