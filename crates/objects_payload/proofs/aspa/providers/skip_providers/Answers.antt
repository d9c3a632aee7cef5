use Rattle.std.proofs.Common.{refl}
use Rattle.objects_payload.proofs.of_bcder_content.Forests.{there, absent}
use Rattle.objects_payload.proofs.of_bcder_content.Gathering.{gather_begin, gather_next, gather_refused, gather_end}
use Rattle.objects_payload.proofs.of_bcder_content.Taking.{on_content}
use Rattle.objects_payload.proofs.of_bcder_content.Took.{took_shorter}
use Rattle.objects_payload.specs.Listing.{as_id_one}
use Rattle.objects_payload.proofs.Orders.{run_begin, run_more, run_never}
use Rattle.objects_payload.proofs.Runs.{as_id_tagged, lawful_lacks, run_empty, run_lawful, run_stop}
use Rattle.objects_payload.proofs.aspa.providers.skip_providers.Goals as goal

pub loop-provider-init : goal.loop-provider-init
loop-provider-init g c = gather_begin (run_begin _ _ c.new-run.ensures.count c.new-run.ensures.last)

pub returns-in_err-provider-clause-reads : goal.returns-in_err-provider-clause-reads
returns-in_err-provider-clause-reads g c = run_stop _ _ _ c.loop-provider.invariant c.from_residual.ensures c.in_err-provider.ensures.reads

pub returns-in_default-and-clause-reads : goal.returns-in_default-and-clause-reads
returns-in_default-and-clause-reads g c =
    let i = c.loop-provider.invariant in
    let x = there _ _ _ c.in-Some.is c.in_ok-provider.ensures.reads in
    record { reads = on_content c.content_err.result (lawful_lacks _ (gather_refused (λ m. as_id_one) i x (λ ys t h. run_never _ i.xs ys _ t _ c.in_default-and.ensures.none i.says h))) }

pub loop-provider-preserved : goal.loop-provider-preserved
loop-provider-preserved g c =
    let i = c.loop-provider.invariant in
    gather_next (λ m. as_id_one) i (there _ _ _ c.in-Some.is c.in_ok-provider.ensures.reads)
    (run_more _ i.xs _ _ _ i.says c.in-Some-and.ensures.admits c.in-Some-and.ensures.count c.in-Some-and.ensures.last)

pub loop-provider-smaller : goal.loop-provider-smaller
loop-provider-smaller g c = took_shorter _ _ _ (there _ _ _ c.in-Some.is c.in_ok-provider.ensures.reads).took

pub returns-then-run-eq0-clause-reads : goal.returns-then-run-eq0-clause-reads
returns-then-run-eq0-clause-reads g c =
    record { reads = on_content c.content_err-then-run-eq0.result (run_empty _ _ c.if-run-eq0.true c.loop-provider.invariant (absent _ _ _ c.in_default.is c.in_ok-provider.ensures.reads)) }

pub returns-clause-reads : goal.returns-clause-reads
returns-clause-reads g c =
    gather_end (run_lawful _ _ c.if-run-eq0.false c.loop-provider.invariant) (λ m. as_id_tagged) (absent _ _ _ c.in_default.is c.in_ok-provider.ensures.reads) refl
