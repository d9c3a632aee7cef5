use Rattle.rpki_rules.proofs.Readings.{one_cert_at}
use Rattle.rpki_rules.proofs.laws.one_cert_at.Goals as goal

pub returns : goal.returns
returns c = one_cert_at
