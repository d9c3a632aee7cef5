use Rattle.std.proofs.Common.{refl}
use Rattle.objects_cms.proofs.of_bcder_content.Forests.{absent, there}
use Rattle.objects_cms.proofs.of_bcder_content.InMode.{items_end, items_next, items_stop}
use Rattle.objects_rta.proofs.ListTexts.{crl_tagged}
use Rattle.objects_rta.proofs.lists.take_crls.Goals as goal

pub returns-in_err-crl : goal.returns-in_err-crl
returns-in_err-crl g c = items_stop _ _ c.loop-crls.invariant c.from_residual.ensures c.in_err-crl.ensures.reads

pub loop-crls-preserved : goal.loop-crls-preserved
loop-crls-preserved g c = items_next c.loop-crls.invariant (there _ _ _ c.in-Some.is c.in_ok-crl.ensures.reads) c.in_ok-push.ensures.items

pub returns : goal.returns
returns g c = items_end c.loop-crls.invariant crl_tagged (absent _ _ _ c.in_default.is c.in_ok-crl.ensures.reads) refl
