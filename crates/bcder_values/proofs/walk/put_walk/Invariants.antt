use Rattle.bcder_values.specs.Lists.{WritesAll}
use Rattle.bcder_values.specs.bcder_primitive.Writing.{Wrote}
use Rattle.bcder_values.proofs.walk.put_walk.Given as goal
use Rattle.std.proofs.Common.{◌≡◌, List, ◌++◌, length}

abbrev pub invariant-loop-item : goal.invariant-loop-item
invariant-loop-item g l = record {
  done : List g.row.T-Item.Denot;
  whole : g.T.Walk.items l.fn.walk ≡ done ++ g.T.Walk.items l.rest;
  written : Wrote (WritesAll (λ v. g.T.Item.Values.writes v l.fn.mode) done) (g.W.Write.contents l.fn.target) (g.W.Write.contents l.target);
}

abbrev pub decreases-loop-item : goal.decreases-loop-item
decreases-loop-item g l = length (g.T.Walk.items l.rest)
