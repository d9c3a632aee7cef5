use Rattle.rpki_rules.proofs.LookedUp.{one_object_at}
use Rattle.rpki_rules.proofs.laws.one_object_at.Goals as goal

pub returns : goal.returns
returns c = one_object_at
