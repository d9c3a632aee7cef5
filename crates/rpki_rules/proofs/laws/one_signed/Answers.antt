use Rattle.rpki_rules.proofs.Readings.{one_signed}
use Rattle.rpki_rules.proofs.laws.one_signed.Goals as goal

pub returns : goal.returns
returns c = one_signed
