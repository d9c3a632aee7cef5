use Rattle.bcder_tree.proofs.Canonical.{one_spelling}
use Rattle.bcder_tree.proofs.laws.one_spelling.Goals as goal

pub returns : goal.returns
returns c = one_spelling
