use Rattle.std.proofs.Common.{◌≡◌, ◌+◌, map, length}
use Rattle.resources_asn.specs.Blocks.{as_run}
use Rattle.resources_asn.specs.Counted.{runs_count}
use Rattle.resources_as.proofs.blocks.count_of.Given as goal

abbrev pub invariant-loop-block : goal.invariant-loop-block
invariant-loop-block l = l.count + runs_count (map as_run l.rest) ≡ runs_count (map as_run l.blocks)

abbrev pub decreases-loop-block : goal.decreases-loop-block
decreases-loop-block l = length l.rest
