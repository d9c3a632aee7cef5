use Rattle.rpki_validator.proofs.Judging.{agrees}
use Rattle.rpki_validator.proofs.laws.judging_agrees_with_walking.Goals as goal

pub returns : goal.returns
returns c = agrees
