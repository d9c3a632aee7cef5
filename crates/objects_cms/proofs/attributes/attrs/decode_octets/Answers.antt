use Rattle.objects_cms.proofs.Wholes.{decodes_all}
use Rattle.objects_cms.proofs.attributes.attrs.decode_octets.Goals as goal

pub returns : goal.returns
returns c = decodes_all (record { each = λ p q r h. h }) c.decode.ensures.decoded
