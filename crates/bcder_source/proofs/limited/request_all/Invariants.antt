use Rattle.std.proofs.Common.{◌≡◌, ◌-◌, ◌^◌, ◌<◌, length}
use Rattle.bcder_source.proofs.limited.request_all.Given as goal

-- The rest stays, and what is at hand is of it.
abbrev pub invariant-loop-count : goal.invariant-loop-count
invariant-loop-count g l = record {
  rest : g.S.Source.rest l.source ≡ g.S.Source.rest l.fn.source;
  small : l.have < 2 ^ 63;
}

abbrev pub decreases-loop-count : goal.decreases-loop-count
decreases-loop-count g l = length (g.S.Source.rest l.fn.source) - l.have
