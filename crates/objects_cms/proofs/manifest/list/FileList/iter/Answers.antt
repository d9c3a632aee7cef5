use Rattle.std.proofs.Common.{rules, ◌∙◌}
use Rattle.objects_cms.proofs.Stepping.{all_left, listed_left}
use Rattle.objects_cms.proofs.manifest.list.FileList.iter.Goals as goal

pub invariant_of-result : goal.invariant_of-result
invariant_of-result c = ((c.self.inside.listing.0, all_left c.self.inside.octets c.self.inside.listing c.as_slice.result.now c.as_slice.ensures.octets), tt)

pub returns : goal.returns
returns c =
    listed_left c.as_slice.result.now _ c.self.inside.listing.0 (search rules) (all_left c.self.inside.octets c.self.inside.listing c.as_slice.result.now c.as_slice.ensures.octets)
    ∙ c.self.view_is
