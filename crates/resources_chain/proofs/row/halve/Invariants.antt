use Rattle.std.proofs.Common.{◌-◌}
use Rattle.resources_chain.proofs.RowLemmas.{Halving}
use Rattle.resources_chain.proofs.row.halve.Given as goal

abbrev pub invariant-loop-low : goal.invariant-loop-low
invariant-loop-low g l = Halving (g.R.Row.size l.fn.row) (g.R.Row.stands l.fn.row) (g.R.Row.count l.fn.row) (g.R.Row.size l.row) (g.R.Row.stands l.row) (g.R.Row.count l.row) l.low l.high

abbrev pub decreases-loop-low : goal.decreases-loop-low
decreases-loop-low g l = l.high - l.low
