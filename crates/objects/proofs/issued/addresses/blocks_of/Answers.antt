use Rattle.std.proofs.Common.{IfOk, List, subst}
use Rattle.objects.specs.resources_chain.Sets.{InRuns, IsRunsOf, Run}
use Rattle.objects.proofs.RoaAgain.{pushed_all, pushed_more}
use Rattle.objects.proofs.issued.addresses.blocks_of.Goals as goal

pub loop-address-preserved : goal.loop-address-preserved
loop-address-preserved c = pushed_more _ _ _ _ _ _ c.prefix.result c.loop-address.invariant c.in-Some.ensures.steps c.prefix.ensures c.in_ok-push.ensures.ok

pub returns : goal.returns
returns c =
    subst (λ (runs : List Run). IfOk c.finalize.result (IsRunsOf (InRuns runs))) (pushed_all _ _ _ c.loop-address.invariant c.in-None.ensures.steps.0) c.finalize.ensures
