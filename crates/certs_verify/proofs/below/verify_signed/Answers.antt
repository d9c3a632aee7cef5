use Rattle.std.proofs.Common.{[], ◌∷◌, ◌++◌}
use Rattle.certs_verify.specs.certs_extension.Verified.{PassesAt, nothing, validity, issuer_claim}
use Rattle.certs_verify.specs.certs_extension.declared.forms.VerificationTest.TheVariants as test
use Rattle.certs_verify.proofs.Chains.{answers_next, handed_on}
use Rattle.certs_verify.proofs.below.verify_signed.Goals as goal

pub returns-in_err-valid-clause-answers : goal.returns-in_err-valid-clause-answers
returns-in_err-valid-clause-answers g c =
    let good = g.V.Verifier.says c.args.verifier.now in
    handed_on (PassesAt good c.args.now c.args.issuer.now nothing c.args.cert.now) [] validity (issuer_claim ++ test.BadSignature ∷ [])
    c.in_err-valid.field-0.0 _ c.from_residual.ensures tt (c.in_err-valid.ensures.answers good c.args.issuer.now)

pub returns-in_err-claimed-clause-answers : goal.returns-in_err-claimed-clause-answers
returns-in_err-claimed-clause-answers g c =
    let good = g.V.Verifier.says c.args.verifier.now in
    handed_on (PassesAt good c.args.now c.args.issuer.now nothing c.args.cert.now) validity issuer_claim (test.BadSignature ∷ [])
    c.in_err-claimed.field-0.0 _ c.from_residual-in_err-claimed.ensures (c.in_ok-valid.ensures.answers good c.args.issuer.now) (c.in_err-claimed.ensures.answers good c.args.now)

pub returns-clause-answers : goal.returns-clause-answers
returns-clause-answers g c =
    let good = g.V.Verifier.says c.args.verifier.now in
    let P = PassesAt good c.args.now c.args.issuer.now nothing c.args.cert.now in
    answers_next P validity (issuer_claim ++ test.BadSignature ∷ []) _ (c.in_ok-valid.ensures.answers good c.args.issuer.now)
    (answers_next P issuer_claim (test.BadSignature ∷ []) _ (c.in_ok-claimed.ensures.answers good c.args.now) (c.verify_signature.ensures.answers c.args.now))
