use Rattle.rpki_rules.proofs.Cross.{non_interference}
use Rattle.rpki_rules.proofs.laws.non_interference.Goals as goal

pub returns : goal.returns
returns c = non_interference
