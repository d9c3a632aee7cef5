use Rattle.rpki_rules.proofs.Verify.{anchor_is_verified}
use Rattle.rpki_rules.proofs.laws.anchor_is_verified.Goals as goal

pub returns : goal.returns
returns c = anchor_is_verified
