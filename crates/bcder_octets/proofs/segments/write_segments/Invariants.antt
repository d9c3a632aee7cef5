use Rattle.std.proofs.Common.{◌≡◌, ℕ, List, ◌++◌, length}
use Rattle.bcder_values.specs.Lists.{WritesAll}
use Rattle.bcder_octets.specs.bcder_primitive.Writing.{Wrote}
use Rattle.bcder_octets.specs.Segments.{segments, WritesSegment}
use Rattle.bcder_octets.proofs.segments.write_segments.Given as goal

abbrev pub invariant-loop-first : goal.invariant-loop-first
invariant-loop-first g l = record {
  done : List (List ℕ);
  whole : segments l.fn.octets ≡ done ++ segments l.rest;
  written : Wrote (WritesAll (WritesSegment l.fn.mode) done) (g.W.Write.contents l.fn.target) (g.W.Write.contents l.target);
}

abbrev pub decreases-loop-first : goal.decreases-loop-first
decreases-loop-first g l = length l.rest
