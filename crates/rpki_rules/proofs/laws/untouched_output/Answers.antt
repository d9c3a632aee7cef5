use Rattle.rpki_rules.proofs.Untouched.{untouched_output}
use Rattle.rpki_rules.proofs.laws.untouched_output.Goals as goal

pub returns : goal.returns
returns c = untouched_output
