use Rattle.bcder_source.proofs.Moves.{left_moved}
use Rattle.bcder_source.proofs.laws.reading_takes_a_front.Goals as goal

pub returns : goal.returns
returns c = λ old new text m. left_moved m
