use Rattle.rpki_rules.proofs.PointReasons.{points_have_reasons}
use Rattle.rpki_rules.proofs.laws.points_have_reasons.Goals as goal

pub returns : goal.returns
returns c = points_have_reasons
