use Rattle.rpki_rules.proofs.Simple.{verdict_removal}
use Rattle.rpki_rules.proofs.laws.verdict_removal.Goals as goal

pub returns : goal.returns
returns c = verdict_removal
