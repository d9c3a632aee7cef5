use Rattle.resources_as.proofs.Octets.{policies, ip_resources, as_resources}
use Rattle.resources_as.proofs.policy.laws.octets_are_of_components.Goals as goal

pub returns-clause-policies : goal.returns-clause-policies
returns-clause-policies c = policies

pub returns-clause-ip_resources : goal.returns-clause-ip_resources
returns-clause-ip_resources c = ip_resources

pub returns-clause-as_resources : goal.returns-clause-as_resources
returns-clause-as_resources c = as_resources
