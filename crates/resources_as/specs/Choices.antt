-- Why the set of a choice of AS numbers can't be stated.
use Rattle.resources_as.specs.resources_chain.declared.choice.InheritedResources.{InheritedResources}
use Rattle.resources_as.specs.resources_chain.declared.choice.InheritedResources.TheVariants as Cause
use Rattle.resources_as.specs.declared.resources.InheritedAsResources.{InheritedAsResources}
use Rattle.resources_as.specs.declared.resources.InheritedAsResources.TheVariants as AsCause

-- A cause, as one of choices of AS numbers.
abbrev pub as_cause : InheritedResources → InheritedAsResources
as_cause Cause.Inherited = AsCause.Inherited
as_cause Cause.Memory = AsCause.Memory
