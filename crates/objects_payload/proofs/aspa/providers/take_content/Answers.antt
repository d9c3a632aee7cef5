use Rattle.std.proofs.Common.{rules}
use Rattle.objects_payload.proofs.of_bcder_content.InMode.{begin, stop_all}
use Rattle.objects_payload.proofs.of_bcder_content.Kept.{exact_capture}
use Rattle.objects_payload.proofs.of_bcder_content.Taking.{weaker}
use Rattle.objects_payload.proofs.Contents.{all_lack, captured_few, captured_list, captured_reads}
use Rattle.objects_payload.proofs.aspa.providers.take_content.Goals as goal

pub capture-requires-clause-reads : goal.capture-requires-clause-reads
capture-requires-clause-reads g c = record { each = λ p q x h. (h.0.reads.trees, h.0.reads.took) }

pub returns-in_err-octets : goal.returns-in_err-octets
returns-in_err-octets g c =
    stop_all _ begin c.from_residual.ensures (weaker _ (all_lack _) (exact_capture (record { each = λ p q r m h. h.0.reads }) c.in_err-octets.ensures.captures))

pub invariant_of-result : goal.invariant_of-result
invariant_of-result g c =
    let h = captured_list _ (record { each = λ p q r m k. k.0.reads }) c.in_ok-octets.ensures.captures in
    ((h.providers, ∣ h.spelled ∣₁), tt)

pub invariant_of-result-2 : goal.invariant_of-result-2
invariant_of-result-2 g c = captured_few _ _ (search rules) (captured_list _ (record { each = λ p q r m k. k.0.reads }) c.in_ok-octets.ensures.captures)

pub returns : goal.returns
returns g c = captured_reads _ _ _ (search rules) (captured_list _ (record { each = λ p q r m k. k.0.reads }) c.in_ok-octets.ensures.captures)
