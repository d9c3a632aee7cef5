use Rattle.rpki_rules.proofs.Verify.{issued_holds}
use Rattle.rpki_rules.proofs.laws.issued_holds.Goals as goal

pub returns : goal.returns
returns c = issued_holds
