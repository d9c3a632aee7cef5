use Rattle.rpki_rules.proofs.NamesAlone.{names_are_alone}
use Rattle.rpki_rules.proofs.laws.names_are_alone.Goals as goal

pub returns : goal.returns
returns c = names_are_alone
