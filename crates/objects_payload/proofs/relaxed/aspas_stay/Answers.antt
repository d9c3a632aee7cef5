use Rattle.objects_payload.proofs.RelaxedObjects.{aspas_stay, aspas_stay_alone}
use Rattle.objects_payload.proofs.relaxed.aspas_stay.Goals as goal

pub returns : goal.returns
returns c = record { stay = aspas_stay; alone = aspas_stay_alone }
