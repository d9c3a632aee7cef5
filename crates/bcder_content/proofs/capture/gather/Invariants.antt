use Rattle.std.proofs.Common.{◌≡◌, ◌-◌, ◌^◌, ◌<◌, length}
use Rattle.bcder_content.specs.bcder_source.Limits.{view}
use Rattle.bcder_content.specs.bcder_source.Views.{left}
use Rattle.bcder_content.proofs.capture.gather.Given as goal

-- What may be read stays, and what is at hand is of it.
abbrev pub invariant-loop-count : goal.invariant-loop-count
invariant-loop-count g l = record {
  same : view g.S.Source.rest l.source ≡ view g.S.Source.rest l.fn.source;
  place : g.S.Source.position l.source.source ≡ g.S.Source.position l.fn.source.source;
  small : l.have < 2 ^ 63;
}

abbrev pub decreases-loop-count : goal.decreases-loop-count
decreases-loop-count g l = length (left (view g.S.Source.rest l.fn.source)) - l.have
