use Rattle.objects_payload.proofs.RelaxedInspected.{sound_alike}
use Rattle.objects_payload.proofs.relaxed.soundness_is_alike.Goals as goal

pub returns : goal.returns
returns c = sound_alike
