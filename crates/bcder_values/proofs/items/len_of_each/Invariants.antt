use Rattle.bcder_values.specs.Lists.{WritesAll}
use Rattle.bcder_values.specs.bcder_primitive.Writing.{HasLength}
use Rattle.bcder_values.proofs.items.len_of_each.Given as goal
use Rattle.std.proofs.Common.{◌≡◌, ℕ, List, ◌++◌, length}

abbrev pub invariant-loop-first : goal.invariant-loop-first
invariant-loop-first g l = record {
  counted : List g.row.U.Denot;
  whole : l.items ≡ counted ++ l.rest;
  long : HasLength (WritesAll (λ x. g.E.Encodes.writes l.fn.by x l.fn.mode) counted) l.sum;
  one : (a b : List ℕ) → WritesAll (λ x. g.E.Encodes.writes l.fn.by x l.fn.mode) counted a → WritesAll (λ x. g.E.Encodes.writes l.fn.by x l.fn.mode) counted b → a ≡ b;
}

abbrev pub decreases-loop-first : goal.decreases-loop-first
decreases-loop-first g l = length l.rest
