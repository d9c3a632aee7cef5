use Rattle.rpki_validator.proofs.Forging.{locator_lines}
use Rattle.rpki_validator.proofs.laws.locator_lines_stay.Goals as goal

pub returns : goal.returns
returns c = locator_lines c.locators_stay.ensures
