use Rattle.bcder_values.specs.Lists.{WritesAll}
use Rattle.bcder_values.specs.bcder_primitive.Writing.{HasLength}
use Rattle.bcder_values.proofs.walk.len_of_walk.Given as goal
use Rattle.std.proofs.Common.{◌≡◌, List, ◌++◌, length}

abbrev pub invariant-loop-item : goal.invariant-loop-item
invariant-loop-item g l = record {
  counted : List g.row.T-Item.Denot;
  whole : g.T.Walk.items l.fn.walk ≡ counted ++ g.T.Walk.items l.rest;
  long : HasLength (WritesAll (λ v. g.T.Item.Values.writes v l.fn.mode) counted) l.sum;
}

abbrev pub decreases-loop-item : goal.decreases-loop-item
decreases-loop-item g l = length (g.T.Walk.items l.rest)
