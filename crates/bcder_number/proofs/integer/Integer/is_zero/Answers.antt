use Rattle.bcder_number.proofs.Orders.{zero_is, is_zero}
use Rattle.bcder_number.proofs.integer.Integer.is_zero.Goals as goal

pub returns : goal.returns
returns c = (λ t. zero_is _ _ c.as_slice.ensures (c.is_zero.ensures.0 t), λ e. c.is_zero.ensures.1 (is_zero _ _ c.as_slice.ensures e))
