use Rattle.std.proofs.Common.{length, sym, ap, ◌∙◌}
use Rattle.std.specs.Cmp.{unsigned_Decides}
use Rattle.objects_cms.proofs.Stepping.{empty_list, list_empty, no_length}
use Rattle.objects_cms.proofs.manifest.list.FileList.is_empty.Goals as goal

pub returns : goal.returns
returns c =
    let d = unsigned_Decides (length c.as_slice.result.now) 0 in (
      λ t. sym c.self.view_is ∙ empty_list c.self.inside.octets c.self.inside.listing (sym c.as_slice.ensures.octets ∙ no_length c.as_slice.result.now (d.0 (sym c.is_empty.ensures ∙ t))),
      λ e. c.is_empty.ensures ∙ d.1 (ap length (c.as_slice.ensures.octets ∙ list_empty c.self.inside.octets c.self.inside.listing (c.self.view_is ∙ e))),
    )
