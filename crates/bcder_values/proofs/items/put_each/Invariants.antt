use Rattle.bcder_values.specs.Lists.{WritesAll}
use Rattle.bcder_values.specs.bcder_primitive.Writing.{Wrote}
use Rattle.bcder_values.proofs.items.put_each.Given as goal
use Rattle.std.proofs.Common.{◌≡◌, List, ◌++◌, length}

abbrev pub invariant-loop-first : goal.invariant-loop-first
invariant-loop-first g l = record {
  done : List g.row.U.Denot;
  whole : l.items ≡ done ++ l.rest;
  written : Wrote (WritesAll (λ x. g.E.Encodes.writes l.fn.by x l.fn.mode) done) (g.W.Write.contents l.fn.target) (g.W.Write.contents l.target);
}

abbrev pub decreases-loop-first : goal.decreases-loop-first
decreases-loop-first g l = length l.rest
