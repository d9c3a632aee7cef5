use Rattle.rpki_rules.proofs.Cross.{locators_stay}
use Rattle.rpki_rules.proofs.laws.locators_stay.Goals as goal

pub returns : goal.returns
returns c = locators_stay
