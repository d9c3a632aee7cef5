use Rattle.objects_payload.proofs.RelaxedObjects.{roas_stay, roas_stay_alone}
use Rattle.objects_payload.proofs.relaxed.roas_stay.Goals as goal

pub returns : goal.returns
returns c = record { stay = roas_stay; alone = roas_stay_alone }
