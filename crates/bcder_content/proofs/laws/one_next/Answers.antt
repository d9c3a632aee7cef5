use Rattle.bcder_content.proofs.Took.{one_took}
use Rattle.bcder_content.proofs.laws.one_next.Goals as goal

pub returns : goal.returns
returns c = λ v w x t u k l. one_took k l
