use Rattle.rpki_rules.proofs.Refusals.{refusals_stay}
use Rattle.rpki_rules.proofs.laws.refusals_stay.Goals as goal

pub returns : goal.returns
returns c = refusals_stay
