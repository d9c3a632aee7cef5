use Rattle.rpki_validator.proofs.Forging.{refusal_lines}
use Rattle.rpki_validator.proofs.laws.refusal_lines_stay.Goals as goal

pub returns : goal.returns
returns c = refusal_lines c.refusals_stay.ensures
