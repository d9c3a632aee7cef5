use Rattle.rpki_rules.proofs.Verify.{issued_is_verified}
use Rattle.rpki_rules.proofs.laws.issued_is_verified.Goals as goal

pub returns : goal.returns
returns c = issued_is_verified
