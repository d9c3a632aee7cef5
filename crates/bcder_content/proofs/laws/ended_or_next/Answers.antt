use Rattle.bcder_content.proofs.Took.{ended_none}
use Rattle.bcder_content.proofs.laws.ended_or_next.Goals as goal

pub returns : goal.returns
returns c = λ v t e a. ended_none e a.1
