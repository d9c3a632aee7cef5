use Rattle.rpki_standing.proofs.Rows.{sorted_apart}
use Rattle.rpki_standing.proofs.points.names.differ_by_name.Goals as goal

pub returns : goal.returns
returns c = sorted_apart c.in_ok-names.names.items c.sort_unstable.new.self.items c.deref.result.now _ c.ascend.result c.in_ok-names.ensures c.sort_unstable.ensures.permutation c.sort_unstable.ensures.sorted c.deref.ensures.value c.ascend.ensures
