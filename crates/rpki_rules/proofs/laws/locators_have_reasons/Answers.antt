use Rattle.rpki_rules.proofs.LocatorReasons.{locators_have_reasons}
use Rattle.rpki_rules.proofs.laws.locators_have_reasons.Goals as goal

pub returns : goal.returns
returns c = locators_have_reasons
