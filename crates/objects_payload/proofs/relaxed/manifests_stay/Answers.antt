use Rattle.objects_payload.proofs.RelaxedObjects.{manifests_stay, manifests_stay_alone}
use Rattle.objects_payload.proofs.relaxed.manifests_stay.Goals as goal

pub returns : goal.returns
returns c = record { stay = manifests_stay; alone = manifests_stay_alone }
