use Rattle.std.proofs.Common.{[], ◌∷◌}
use Rattle.certs_verify.specs.certs_extension.Verified.{PassesAt, held_by}
use Rattle.certs_verify.specs.certs_extension.declared.forms.VerificationTest.TheVariants as test
use Rattle.certs_verify.proofs.Chains.{handed_on}
use Rattle.certs_verify.proofs.claims.claim_all.Goals as goal

pub returns-in_err-v4-clause-answers : goal.returns-in_err-v4-clause-answers
returns-in_err-v4-clause-answers c good now =
    handed_on (PassesAt good now c.args.issuer.now.holder.cert (held_by c.args.issuer.now.holder) c.args.cert.now) [] (test.OverclaimV4 ∷ []) (test.OverclaimV6 ∷ test.OverclaimAs ∷ [])
    c.in_err-v4.field-0.0 _ c.from_residual.ensures tt (c.in_err-v4.ensures.answers good now)

pub returns-in_err-v6-clause-answers : goal.returns-in_err-v6-clause-answers
returns-in_err-v6-clause-answers c good now =
    handed_on (PassesAt good now c.args.issuer.now.holder.cert (held_by c.args.issuer.now.holder) c.args.cert.now) (test.OverclaimV4 ∷ []) (test.OverclaimV6 ∷ []) (test.OverclaimAs ∷ [])
    c.in_err-v6.field-0.0 _ c.from_residual-in_err-v6.ensures (c.in_ok-v4.ensures.answers good now) (c.in_err-v6.ensures.answers good now)

pub returns-in_err-asn-clause-answers : goal.returns-in_err-asn-clause-answers
returns-in_err-asn-clause-answers c good now =
    let v4 = c.in_ok-v4.ensures.answers good now in
    let v6 = c.in_ok-v6.ensures.answers good now in
    handed_on (PassesAt good now c.args.issuer.now.holder.cert (held_by c.args.issuer.now.holder) c.args.cert.now) (test.OverclaimV4 ∷ test.OverclaimV6 ∷ []) (test.OverclaimAs ∷ []) []
    c.in_err-asn.field-0.0 _ c.from_residual-in_err-asn.ensures (v4.0, v6) (c.in_err-asn.ensures.answers good now)

pub returns-clause-answers : goal.returns-clause-answers
returns-clause-answers c good now =
    let v4 = c.in_ok-v4.ensures.answers good now in
    let v6 = c.in_ok-v6.ensures.answers good now in
    (v4.0, (v6.0, c.in_ok-asn.ensures.answers good now))
