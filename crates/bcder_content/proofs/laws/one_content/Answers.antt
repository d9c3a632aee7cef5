use Rattle.bcder_content.proofs.Took.{one_whole}
use Rattle.bcder_content.proofs.laws.one_content.Goals as goal

pub returns : goal.returns
returns c = λ v ts us w x. one_whole ts us w x
