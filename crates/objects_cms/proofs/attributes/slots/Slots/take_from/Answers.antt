use Rattle.std.proofs.Common.{refl}
use Rattle.objects_cms.proofs.of_bcder_content.Forests.{absent, there}
use Rattle.objects_cms.proofs.of_bcder_content.Gathering.{gather_begin, gather_end, gather_next, gather_refused, gather_stop}
use Rattle.objects_cms.proofs.of_bcder_content.Taking.{on_content}
use Rattle.objects_cms.proofs.of_bcder_content.Took.{took_shorter}
use Rattle.objects_cms.proofs.AttributeOnes.{said_one}
use Rattle.objects_cms.proofs.Single.{said_tagged}
use Rattle.objects_cms.proofs.attributes.slots.Slots.take_from.Goals as goal

pub loop-slots-init : goal.loop-slots-init
loop-slots-init g c = gather_begin c.new-slots.ensures

pub returns-in_err-said-clause-reads : goal.returns-in_err-said-clause-reads
returns-in_err-said-clause-reads g c = gather_stop _ _ c.loop-slots.invariant c.from_residual.ensures c.in_err-said.ensures.reads

pub returns-in-Err-clause-reads : goal.returns-in-Err-clause-reads
returns-in-Err-clause-reads g c =
    let i = c.loop-slots.invariant in
    let x = there _ _ _ c.in-Some.is c.in_ok-said.ensures.reads in
    record { reads = on_content _ (gather_refused said_one i x (λ ys t h. c.in-Err.ensures.refused i.xs ys t i.says h)) }

pub loop-slots-preserved : goal.loop-slots-preserved
loop-slots-preserved g c =
    let i = c.loop-slots.invariant in
    gather_next said_one i (there _ _ _ c.in-Some.is c.in_ok-said.ensures.reads) (c.in_default-put.ensures.ok i.xs i.says)

pub loop-slots-smaller : goal.loop-slots-smaller
loop-slots-smaller g c = took_shorter _ _ _ (there _ _ _ c.in-Some.is c.in_ok-said.ensures.reads).took

pub returns-clause-reads : goal.returns-clause-reads
returns-clause-reads g c = gather_end c.loop-slots.invariant said_tagged (absent _ _ _ c.in_default.is c.in_ok-said.ensures.reads) refl
