use Rattle.std.proofs.Common.{[], ◌∷◌}
use Rattle.certs_verify.specs.certs_extension.Verified.{PassesAt, nothing}
use Rattle.certs_verify.specs.certs_extension.declared.forms.VerificationTest.TheVariants as test
use Rattle.certs_verify.proofs.Chains.{handed_on}
use Rattle.certs_verify.proofs.claims.own_all.Goals as goal

pub returns-in_err-v4-clause-answers : goal.returns-in_err-v4-clause-answers
returns-in_err-v4-clause-answers c good now issuer =
    handed_on (PassesAt good now issuer nothing c.args.cert.now) [] (test.InheritedV4 ∷ []) (test.InheritedV6 ∷ test.InheritedAs ∷ [])
    c.in_err-v4.field-0.0 _ c.from_residual.ensures tt (c.in_err-v4.ensures.answers good now issuer)

pub returns-in_err-v6-clause-answers : goal.returns-in_err-v6-clause-answers
returns-in_err-v6-clause-answers c good now issuer =
    handed_on (PassesAt good now issuer nothing c.args.cert.now) (test.InheritedV4 ∷ []) (test.InheritedV6 ∷ []) (test.InheritedAs ∷ [])
    c.in_err-v6.field-0.0 _ c.from_residual-in_err-v6.ensures (c.in_ok-v4.ensures.answers good now issuer) (c.in_err-v6.ensures.answers good now issuer)

pub returns-in_err-asn-clause-answers : goal.returns-in_err-asn-clause-answers
returns-in_err-asn-clause-answers c good now issuer =
    let v4 = c.in_ok-v4.ensures.answers good now issuer in
    let v6 = c.in_ok-v6.ensures.answers good now issuer in
    handed_on (PassesAt good now issuer nothing c.args.cert.now) (test.InheritedV4 ∷ test.InheritedV6 ∷ []) (test.InheritedAs ∷ []) []
    c.in_err-asn.field-0.0 _ c.from_residual-in_err-asn.ensures (v4.0, v6) (c.in_err-asn.ensures.answers good now issuer)

pub returns-clause-answers : goal.returns-clause-answers
returns-clause-answers c good now issuer =
    let v4 = c.in_ok-v4.ensures.answers good now issuer in
    let v6 = c.in_ok-v6.ensures.answers good now issuer in
    (v4.0, (v6.0, c.in_ok-asn.ensures.answers good now issuer))
