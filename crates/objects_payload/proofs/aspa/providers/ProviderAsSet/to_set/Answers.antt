use Rattle.objects_payload.proofs.Splits.{set_of}
use Rattle.objects_payload.proofs.aspa.providers.ProviderAsSet.to_set.Goals as goal

pub returns : goal.returns
returns c = set_of c.from_iter.result _ _ c.iter.ensures.all c.from_iter.ensures
