use Rattle.std.proofs.Common.{◌∙◌, List, map, ap}
use Rattle.objects_payload.specs.Locators.{is_https}
use Rattle.objects_payload.specs.declared.locator.uri.TalUri.{TalUri}
use Rattle.objects_payload.specs.Uris.{text_of}
use Rattle.objects_payload.proofs.Parting.{map_parts}
use Rattle.objects_payload.proofs.locator.order.https_to_front.Goals as goal

pub returns : goal.returns
returns c = ap (λ (z : List TalUri). map text_of z) c.part-count.ensures.order ∙ map_parts text_of is_https c.args.uris.now
