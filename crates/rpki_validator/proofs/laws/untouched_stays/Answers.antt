use Rattle.rpki_validator.proofs.Forging.{stays_untouched}
use Rattle.rpki_validator.proofs.laws.untouched_stays.Goals as goal

pub returns : goal.returns
returns c = stays_untouched c.untouched_output.ensures
