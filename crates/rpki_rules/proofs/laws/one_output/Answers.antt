use Rattle.rpki_rules.proofs.OneOutput.{one_output}
use Rattle.rpki_rules.proofs.laws.one_output.Goals as goal

pub returns : goal.returns
returns c = one_output
