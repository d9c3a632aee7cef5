use Rattle.bcder_tree.proofs.Modes.{to_ber}
use Rattle.bcder_tree.proofs.laws.each_spelling_is_ber.Goals as goal

pub returns : goal.returns
returns c = to_ber
