use Rattle.resources.proofs.Changing.{turn_round}
use Rattle.resources.proofs.set.laws.changes_turn_round.Goals as goal

pub returns : goal.returns
returns c = turn_round
