use Rattle.bcder_values.proofs.Gathering.{no_values}
use Rattle.bcder_values.proofs.captured.CapturedBuilder.new.Goals as goal

pub invariant_of-result : goal.invariant_of-result
invariant_of-result c = no_values _ _ c.new.ensures.items
