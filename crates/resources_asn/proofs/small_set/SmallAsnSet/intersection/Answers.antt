use Rattle.std.proofs.Common.{ap, ◌∙◌}
use Rattle.resources_asn.specs.Chosen.{values}
use Rattle.resources_asn.proofs.SmallLemmas.{both_list}
use Rattle.resources_asn.proofs.small_set.SmallAsnSet.intersection.Goals as goal

pub returns : goal.returns
returns c =
    both_list c.deref.result.now c.deref-2.result.now _ _ _
    (ap values c.deref.ensures.value ∙ c.self.view_is) (ap values c.deref-2.ensures.value ∙ c.other.view_is) c.new.ensures
