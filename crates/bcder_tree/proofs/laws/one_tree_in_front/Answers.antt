use Rattle.bcder_tree.proofs.Trees.{one_tree}
use Rattle.bcder_tree.proofs.laws.one_tree_in_front.Goals as goal

pub returns : goal.returns
returns c = λ m octets t u r s. one_tree t u
