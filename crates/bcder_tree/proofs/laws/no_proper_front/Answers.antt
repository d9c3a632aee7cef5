use Rattle.bcder_tree.proofs.Modes.{no_proper_front}
use Rattle.bcder_tree.proofs.laws.no_proper_front.Goals as goal

pub returns : goal.returns
returns c = no_proper_front
