use Rattle.rpki_validator.proofs.Forging.{stays_inside}
use Rattle.rpki_validator.proofs.laws.forging_stays_inside.Goals as goal

pub returns : goal.returns
returns c = stays_inside c.outside_stays.ensures
