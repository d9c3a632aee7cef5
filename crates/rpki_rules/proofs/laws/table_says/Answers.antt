use Rattle.rpki_rules.proofs.Tables.{table_says}
use Rattle.rpki_rules.proofs.laws.table_says.Goals as goal

pub returns : goal.returns
returns c = table_says
