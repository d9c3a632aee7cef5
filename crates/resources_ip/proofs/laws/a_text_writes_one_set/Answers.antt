use Rattle.resources_ip.proofs.Texts.{one_set}
use Rattle.resources_ip.proofs.laws.a_text_writes_one_set.Goals as goal

pub returns : goal.returns
returns c = one_set
