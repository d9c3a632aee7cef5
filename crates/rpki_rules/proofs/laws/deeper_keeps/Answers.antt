use Rattle.rpki_rules.proofs.Simple.{deeper_keeps}
use Rattle.rpki_rules.proofs.laws.deeper_keeps.Goals as goal

pub returns : goal.returns
returns c = deeper_keeps
