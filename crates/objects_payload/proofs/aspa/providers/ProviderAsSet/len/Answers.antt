use Rattle.std.proofs.Common.{refl, inl}
use Rattle.objects_payload.proofs.Splits.{fits}
use Rattle.objects_payload.proofs.aspa.providers.ProviderAsSet.len.Goals as goal

pub count-requires-clause-fits : goal.count-requires-clause-fits
count-requires-clause-fits c = inl (fits _ _ refl c.iter.ensures.few)
