use Rattle.std.proofs.Common.{◌≡◌, ℕ, List, ◌++◌, length}
use Rattle.bcder_values.specs.Lists.{WritesAll}
use Rattle.bcder_octets.specs.bcder_primitive.Writing.{HasLength}
use Rattle.bcder_octets.specs.Segments.{segments, WritesSegment}
use Rattle.bcder_octets.proofs.segments.segments_len.Given as goal

abbrev pub invariant-loop-first : goal.invariant-loop-first
invariant-loop-first l = record {
  counted : List (List ℕ);
  whole : segments l.fn.octets ≡ counted ++ segments l.rest;
  long : HasLength (WritesAll (WritesSegment l.fn.mode) counted) l.sum;
}

abbrev pub decreases-loop-first : goal.decreases-loop-first
decreases-loop-first l = length l.rest
