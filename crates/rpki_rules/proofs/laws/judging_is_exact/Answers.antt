use Rattle.rpki_rules.proofs.Judging.{judging_is_exact}
use Rattle.rpki_rules.proofs.laws.judging_is_exact.Goals as goal

pub returns : goal.returns
returns c = judging_is_exact
