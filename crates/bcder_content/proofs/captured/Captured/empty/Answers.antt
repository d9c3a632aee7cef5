use Rattle.bcder_content.specs.bcder_tree.Tree.{none}
use Rattle.bcder_content.proofs.captured.Captured.empty.Goals as goal

pub invariant_of-result : goal.invariant_of-result
invariant_of-result c = record { trees = none; spelled = c.new.ensures }
