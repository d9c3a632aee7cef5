use Rattle.std.proofs.Common.{[], ◌∷◌}
use Rattle.certs_verify.specs.certs_extension.Verified.{PassesAt, nothing, validity}
use Rattle.certs_verify.specs.certs_extension.declared.forms.VerificationTest.TheVariants as test
use Rattle.certs_verify.proofs.Chains.{answers_next, handed_on}
use Rattle.certs_verify.proofs.anchor.verify_anchor_ref.Goals as goal

pub returns-in_err-valid-clause-answers : goal.returns-in_err-valid-clause-answers
returns-in_err-valid-clause-answers g c =
    let good = g.V.Verifier.says c.args.verifier.now in
    handed_on (PassesAt good c.args.now c.args.cert.now nothing c.args.cert.now) [] validity (test.InheritedV4 ∷ test.InheritedV6 ∷ test.InheritedAs ∷ test.BadSignature ∷ [])
    c.in_err-valid.field-0.0 _ c.from_residual.ensures tt (c.in_err-valid.ensures.answers good c.args.cert.now)

pub returns-in_err-own-clause-answers : goal.returns-in_err-own-clause-answers
returns-in_err-own-clause-answers g c =
    let good = g.V.Verifier.says c.args.verifier.now in
    handed_on (PassesAt good c.args.now c.args.cert.now nothing c.args.cert.now) validity (test.InheritedV4 ∷ test.InheritedV6 ∷ test.InheritedAs ∷ []) (test.BadSignature ∷ [])
    c.in_err-own.field-0.0 _ c.from_residual-in_err-own.ensures (c.in_ok-valid.ensures.answers good c.args.cert.now) (c.in_err-own.ensures.answers good c.args.now c.args.cert.now)

pub returns-clause-answers : goal.returns-clause-answers
returns-clause-answers g c =
    let good = g.V.Verifier.says c.args.verifier.now in
    let P = PassesAt good c.args.now c.args.cert.now nothing c.args.cert.now in
    answers_next P validity (test.InheritedV4 ∷ test.InheritedV6 ∷ test.InheritedAs ∷ test.BadSignature ∷ []) _ (c.in_ok-valid.ensures.answers good c.args.cert.now)
    (answers_next P (test.InheritedV4 ∷ test.InheritedV6 ∷ test.InheritedAs ∷ []) (test.BadSignature ∷ []) _ (c.in_ok-own.ensures.answers good c.args.now c.args.cert.now) (c.verify_signature.ensures.answers c.args.now))
