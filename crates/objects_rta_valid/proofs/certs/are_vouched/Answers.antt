use Rattle.std.proofs.Common.{ℕ, List, Option, ap, length, subst, ◌∙◌, arith}
use Rattle.std.specs.Prelude.{◌↔◌, IsTrue}
use Rattle.certs_verify.specs.certs_basics.Verdicts.{Verdicts}
use Rattle.certs_verify.specs.certs_extension.Cert.{CertValue}
use Rattle.objects_rta_valid.specs.Vouched.{IsVouched}
use Rattle.objects_rta_valid.proofs.Standing.{not_told, told_not}
use Rattle.objects_rta_valid.proofs.Steps.{zip_more, zip_stops}
use Rattle.objects_rta_valid.proofs.certs.are_vouched.Goals as goal

pub returns-then-not-is_vouched-clause-vouched : goal.returns-then-not-is_vouched-clause-vouched
returns-then-not-is_vouched-clause-vouched g c =
    let P : CertValue → Option ℕ → Type 0 = IsVouched (g.V.Verifier.says c.args.verifier.now) c.args.now c.args.certs.now in
    let h = subst (λ (v : Verdicts). IsTrue c.is_vouched.result ↔ IsVouched v c.args.now c.args.certs.now c.in-Some.cert.now c.in-Some-split_first.link.now) c.loop-cert.invariant.same c.is_vouched.ensures.vouched in
    not_told (zip_stops P _ _ _ _ _ _ _ c.in-Some.ensures.cases.0 c.in-Some-split_first.ensures.cases.0 (told_not c.is_vouched.result h c.if-not-is_vouched.true) c.loop-cert.invariant.vouched)

pub loop-cert-preserved : goal.loop-cert-preserved
loop-cert-preserved g c =
    let P : CertValue → Option ℕ → Type 0 = IsVouched (g.V.Verifier.says c.args.verifier.now) c.args.now c.args.certs.now in
    let h = subst (λ (v : Verdicts). IsTrue c.is_vouched.result ↔ IsVouched v c.args.now c.args.certs.now c.in-Some.cert.now c.in-Some-split_first.link.now) c.loop-cert.invariant.same c.is_vouched.ensures.vouched in
    record {
      vouched = zip_more P _ _ _ _ _ _ _ c.in-Some.ensures.cases.0 c.in-Some-split_first.ensures.cases.0 (h.0 c.if-not-is_vouched.false) c.loop-cert.invariant.vouched;
      same = c.is_vouched.ensures.same ∙ c.loop-cert.invariant.same;
      asked = let more = ap (λ (xs : List CertValue). length xs) c.in-Some.ensures.cases.0 in omega (arith, more, c.is_vouched.ensures.asked, c.loop-cert.invariant.asked);
    }
