use Rattle.objects_rta.proofs.Multi.{decodes_multi}
use Rattle.objects_rta.proofs.object.MultiSignedObject.decode.Goals as goal

pub returns : goal.returns
returns g c = decodes_multi c.args.strict c.mode_of-rules.ensures (record { each = λ p q r h. h }) c.decode.ensures.decoded
