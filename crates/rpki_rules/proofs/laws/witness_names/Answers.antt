use Rattle.rpki_rules.proofs.WitnessNames.{witness_names}
use Rattle.rpki_rules.proofs.laws.witness_names.Goals as goal

pub returns : goal.returns
returns c = witness_names
