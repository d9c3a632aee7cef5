use Rattle.std.proofs.Common.{length}
use Rattle.bcder_source.specs.Limits.{view}
use Rattle.bcder_content.proofs.SkipSteps.{Under}
use Rattle.bcder_content.proofs.skip_value.skip_value.Given as goal

abbrev pub invariant-loop-start : goal.invariant-loop-start
invariant-loop-start g l = record {
  callable : goal.F-IsAlwaysCallable g l.op;
  under : Under l.mode (goal.F-step g) l.fn.op (view g.S.Source.rest l.fn.source) l.spans.items (view g.S.Source.rest l.source) l.op;
}

abbrev pub decreases-loop-start : goal.decreases-loop-start
decreases-loop-start g l = length (g.S.Source.rest l.source.source)
