use Rattle.rpki_rules.proofs.Verify.{signed_is_verified}
use Rattle.rpki_rules.proofs.laws.signed_is_verified.Goals as goal

pub returns : goal.returns
returns c = signed_is_verified
