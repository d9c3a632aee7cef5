use Rattle.objects_cms.proofs.AttributesTold.{attributes_are, attributes_by_slots}
use Rattle.objects_cms.proofs.attributes.laws.attributes_one_by_one.Goals as goal

pub returns : goal.returns
returns c = λ m ts x. (attributes_by_slots, attributes_are)
