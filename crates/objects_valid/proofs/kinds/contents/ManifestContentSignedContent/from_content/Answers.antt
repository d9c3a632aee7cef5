use Rattle.objects_cms.specs.objects_payload.Manifests.{IsManifest}
use Rattle.objects_valid.proofs.Texts.{front_decoded}
use Rattle.objects_valid.proofs.kinds.contents.ManifestContentSignedContent.from_content.Goals as goal

pub returns : goal.returns
returns c = front_decoded IsManifest _ _ c.decode.ensures
