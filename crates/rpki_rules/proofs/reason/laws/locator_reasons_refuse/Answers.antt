use Rattle.rpki_rules.proofs.TestLaws.{locator_reasons_refuse}
use Rattle.rpki_rules.proofs.reason.laws.locator_reasons_refuse.Goals as goal

pub returns : goal.returns
returns c = locator_reasons_refuse
