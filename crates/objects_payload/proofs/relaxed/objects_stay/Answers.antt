use Rattle.objects_payload.proofs.RelaxedObjects.{objects_stay, objects_stay_alone}
use Rattle.objects_payload.proofs.relaxed.objects_stay.Goals as goal

pub returns : goal.returns
returns c = record { stay = objects_stay; alone = objects_stay_alone }
