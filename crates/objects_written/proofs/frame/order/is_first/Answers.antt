use Rattle.objects_written.proofs.Ordering.{first_told}
use Rattle.objects_written.proofs.frame.order.is_first.Goals as goal

pub returns : goal.returns
returns c = first_told _ _ _ _ _ c.as_slice.ensures.octets c.as_slice-2.ensures.octets c.is_ordered.ensures
