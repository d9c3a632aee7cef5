use Rattle.rpki_rules.proofs.Climb.{climbing_is_exact}
use Rattle.rpki_rules.proofs.laws.climbing_is_exact.Goals as goal

pub returns : goal.returns
returns c = climbing_is_exact
