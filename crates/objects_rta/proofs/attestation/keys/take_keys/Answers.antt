use Rattle.std.proofs.Common.{refl}
use Rattle.objects_cms.proofs.of_bcder_content.Forests.{absent, there}
use Rattle.objects_cms.proofs.of_bcder_content.InMode.{items_end, items_next, items_stop}
use Rattle.objects_cms.proofs.of_bcder_content.Took.{took_shorter}
use Rattle.objects_rta.proofs.Checking.{key_tagged}
use Rattle.objects_rta.proofs.attestation.keys.take_keys.Goals as goal

pub returns-in_err-key : goal.returns-in_err-key
returns-in_err-key g c = items_stop _ _ c.loop-keys.invariant c.from_residual.ensures c.in_err-key.ensures

pub loop-keys-preserved : goal.loop-keys-preserved
loop-keys-preserved g c = items_next c.loop-keys.invariant (there _ _ _ c.in-Some.is c.in_ok-key.ensures) c.in_ok-push.ensures.items

pub loop-keys-smaller : goal.loop-keys-smaller
loop-keys-smaller g c = took_shorter _ _ _ (there _ _ _ c.in-Some.is c.in_ok-key.ensures).took

pub returns : goal.returns
returns g c = items_end c.loop-keys.invariant key_tagged (absent _ _ _ c.in_default.is c.in_ok-key.ensures) refl
