use Rattle.bcder_content.proofs.Inside.{walked}
use Rattle.bcder_content.proofs.laws.taking_walks.Goals as goal

pub returns : goal.returns
returns c = λ old inner new tag span ts n k. walked ts n k
