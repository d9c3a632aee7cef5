use Rattle.objects_cms.specs.bcder_content.Grammar.{Any}
use Rattle.objects_cms.proofs.of_bcder_content.Forests.{absent_next, there_next}
use Rattle.objects_cms.proofs.of_bcder_content.Taking.{on_content, weaker}
use Rattle.objects_cms.proofs.of_bcder_content.Took.{ended_none}
use Rattle.objects_rta.proofs.ListTexts.{whole_ends, whole_stop}
use Rattle.objects_rta.proofs.lists.take_whole.Goals as goal

pub returns-in_err-crls : goal.returns-in_err-crls
returns-in_err-crls g c = whole_stop (λ v. v.items) _ _ _ _ c.from_residual.ensures c.in_err-crls.ensures.reads

pub returns-in-Ok-None : goal.returns-in-Ok-None
returns-in-Ok-None g c =
    let none = absent_next (λ z. z) Any _ c.in-Ok-None.field-0-is c.in-Ok-None.ensures.skipped in
    whole_ends c.in_ok-crls.ensures.reads none.0 none.1

pub returns-in-Ok-Some : goal.returns-in-Ok-Some
returns-in-Ok-Some g c =
    let more = there_next (λ z. z) _ c.in-Ok-Some.field-0-is c.in-Ok-Some.ensures.skipped in
    on_content _ (c.in_ok-crls.ensures.reads.only (λ ended. ended_none ended more.took))

pub returns-in-Err : goal.returns-in-Err
returns-in-Err g c = weaker _ (λ l. c.in_ok-crls.ensures.reads.only l.1) c.in-Err.ensures.skipped
