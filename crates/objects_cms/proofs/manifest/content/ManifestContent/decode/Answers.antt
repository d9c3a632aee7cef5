use Rattle.objects_cms.proofs.of_bcder_content.Decoding.{exact_decode}
use Rattle.objects_cms.proofs.manifest.content.ManifestContent.decode.Goals as goal

pub returns : goal.returns
returns g c = exact_decode (record { each = λ p q r m h. h }) c.decode.ensures.decoded
