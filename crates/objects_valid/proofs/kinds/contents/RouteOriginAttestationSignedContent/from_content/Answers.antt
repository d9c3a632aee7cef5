use Rattle.objects_cms.specs.objects_payload.Roas.{IsRoa}
use Rattle.objects_valid.proofs.Texts.{front_decoded}
use Rattle.objects_valid.proofs.kinds.contents.RouteOriginAttestationSignedContent.from_content.Goals as goal

pub returns : goal.returns
returns c = front_decoded IsRoa _ _ c.decode.ensures
