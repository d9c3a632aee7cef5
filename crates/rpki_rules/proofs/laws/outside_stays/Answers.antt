use Rattle.rpki_rules.proofs.Outside.{outside_stays}
use Rattle.rpki_rules.proofs.laws.outside_stays.Goals as goal

pub returns : goal.returns
returns c = outside_stays
