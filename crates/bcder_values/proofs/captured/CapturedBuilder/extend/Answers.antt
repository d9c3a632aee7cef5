use Rattle.std.proofs.Common.{ℕ, ◌≤◌, subst}
use Rattle.bcder_content.specs.Kept.{CapturedValue}
use Rattle.bcder_values.specs.bcder_primitive.Writing.{HasLength}
use Rattle.bcder_values.proofs.Gathering.{more_values, fill_wants}
use Rattle.bcder_values.proofs.captured.CapturedBuilder.extend.Goals as goal

pub invariant_of-self : goal.invariant_of-self
invariant_of-self g c = more_values _ _ _ (g.met.V.Values.spelled c.args.values.now c.self.inside.mode) c.self.invariant c.in-Ok.ensures.written

pub returns-in-Err-clause-memory : goal.returns-in-Err-clause-memory
returns-in-Err-clause-memory g c m =
    subst (λ (v : CapturedValue). (n : ℕ) × HasLength (g.V.Values.writes c.args.values.now v.mode) n × (1 ≤ n)) c.self.view_is
    (fill_wants _ _ _ _ _ c.in-Err.error _ c.in-Err.ensures.refused c.of_memory.ensures m)
