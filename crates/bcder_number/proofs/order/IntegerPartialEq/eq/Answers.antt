use Rattle.std.proofs.Common.{◌∙◌}
use Rattle.bcder_number.proofs.Orders.{equal_numbers}
use Rattle.bcder_number.proofs.order.IntegerPartialEq.eq.Goals as goal

pub returns : goal.returns
returns c = c.eq.ensures ∙ equal_numbers _ _ _ _ c.as_slice.ensures c.as_slice-2.ensures
