use Rattle.rpki_rules.proofs.Readings.{one_point}
use Rattle.rpki_rules.proofs.laws.one_point.Goals as goal

pub returns : goal.returns
returns c = one_point
