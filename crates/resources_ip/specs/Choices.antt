-- Why there is no set of addresses.
use Rattle.resources_ip.specs.resources_chain.declared.choice.InheritedResources.{InheritedResources}
use Rattle.resources_ip.specs.resources_chain.declared.choice.InheritedResources.TheVariants as Cause
use Rattle.resources_ip.specs.declared.resources.InheritedIpResources.{InheritedIpResources}
use Rattle.resources_ip.specs.declared.resources.InheritedIpResources.TheVariants as IpCause

abbrev pub same_cause : InheritedResources → InheritedIpResources
same_cause Cause.Inherited = IpCause.Inherited
same_cause Cause.Memory = IpCause.Memory
