use Rattle.objects_rta.proofs.ListTexts.{decodes_lists}
use Rattle.objects_rta.proofs.lists.decode_octets.Goals as goal

pub returns : goal.returns
returns c = decodes_lists (record { each = λ p q r h. h }) c.decode.ensures.decoded
