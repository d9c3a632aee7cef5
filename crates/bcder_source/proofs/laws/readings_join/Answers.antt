use Rattle.bcder_source.proofs.Moves.{moved_both}
use Rattle.bcder_source.proofs.laws.readings_join.Goals as goal

pub returns : goal.returns
returns c = λ a b d x y m n. moved_both m n
