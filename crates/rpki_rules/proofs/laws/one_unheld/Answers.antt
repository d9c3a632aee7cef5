use Rattle.rpki_rules.proofs.NamesAlone.{one_unheld}
use Rattle.rpki_rules.proofs.laws.one_unheld.Goals as goal

pub returns : goal.returns
returns c = one_unheld
