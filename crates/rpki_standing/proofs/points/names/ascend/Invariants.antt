use Rattle.std.proofs.Common.{map}
use Rattle.rpki_standing.proofs.Rows.{RisesBelow, now}
use Rattle.rpki_standing.proofs.points.names.ascend.Given as goal

abbrev pub invariant-loop-i : goal.invariant-loop-i
invariant-loop-i l = RisesBelow (map now l.names) l.i
