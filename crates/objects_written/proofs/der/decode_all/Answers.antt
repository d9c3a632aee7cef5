use Rattle.objects_written.proofs.Taking.{decodes_der}
use Rattle.objects_written.proofs.der.decode_all.Goals as goal

pub returns : goal.returns
returns c = decodes_der (record { each = λ p q r h. h }) c.decode.ensures.decoded
