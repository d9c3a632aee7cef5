use Rattle.rpki_rules.proofs.Versions.{upgrade_stays}
use Rattle.rpki_rules.proofs.laws.upgrade_stays.Goals as goal

pub returns : goal.returns
returns c = upgrade_stays
