use Rattle.rpki_rules.proofs.Simple.{cut_down_keeps}
use Rattle.rpki_rules.proofs.laws.cut_down_keeps.Goals as goal

pub returns : goal.returns
returns c = cut_down_keeps
