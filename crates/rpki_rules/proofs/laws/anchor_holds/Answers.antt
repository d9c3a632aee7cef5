use Rattle.rpki_rules.proofs.Verify.{anchor_holds}
use Rattle.rpki_rules.proofs.laws.anchor_holds.Goals as goal

pub returns : goal.returns
returns c = anchor_holds
