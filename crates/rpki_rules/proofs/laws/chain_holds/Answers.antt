use Rattle.rpki_rules.proofs.Verify.{chain_holds}
use Rattle.rpki_rules.proofs.laws.chain_holds.Goals as goal

pub returns : goal.returns
returns c = chain_holds
