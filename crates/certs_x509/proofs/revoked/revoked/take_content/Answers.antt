use Rattle.std.proofs.Common.{rules}
use Rattle.certs_x509.proofs.of_bcder_content.InMode.{begin, stop_all}
use Rattle.certs_x509.proofs.of_bcder_content.Kept.{exact_capture}
use Rattle.certs_x509.proofs.of_bcder_content.Taking.{weaker}
use Rattle.certs_x509.proofs.Lists.{all_lack, captured_list, captured_reads}
use Rattle.certs_x509.proofs.revoked.revoked.take_content.Goals as goal

pub capture-requires-clause-reads : goal.capture-requires-clause-reads
capture-requires-clause-reads g c = record { each = λ p q x h. (h.0.reads.trees, h.0.reads.took) }

pub returns-in_err-octets : goal.returns-in_err-octets
returns-in_err-octets g c =
    stop_all _ begin c.from_residual.ensures (weaker _ all_lack (exact_capture (record { each = λ p q r m h. h.0.reads }) c.in_err-octets.ensures.captures))

pub invariant_of-result : goal.invariant_of-result
invariant_of-result g c =
    let h = captured_list (record { each = λ p q r m k. k.0.reads }) c.in_ok-octets.ensures.captures in
    ((h.entries, ∣ h.spelled ∣₁), tt)

pub returns : goal.returns
returns g c = captured_reads _ _ (search rules) (captured_list (record { each = λ p q r m k. k.0.reads }) c.in_ok-octets.ensures.captures)
