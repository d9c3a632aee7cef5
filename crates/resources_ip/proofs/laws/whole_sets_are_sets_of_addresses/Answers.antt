use Rattle.resources_ip.proofs.WideSets.{inside_numbers, same_numbers}
use Rattle.resources_ip.proofs.laws.whole_sets_are_sets_of_addresses.Goals as goal

pub returns-clause-inside : goal.returns-clause-inside
returns-clause-inside c = inside_numbers

pub returns-clause-same : goal.returns-clause-same
returns-clause-same c = same_numbers
