use Rattle.std.proofs.Common.{◌↔◌, length}
use Rattle.objects_written.specs.Orders.{IsOrdered}
use Rattle.objects_written.proofs.frame.order.is_ordered.Given as goal

abbrev pub invariant-loop-a : goal.invariant-loop-a
invariant-loop-a l = IsOrdered l.fn.first l.fn.second ↔ IsOrdered l.left l.right

abbrev pub decreases-loop-a : goal.decreases-loop-a
decreases-loop-a l = length l.left
