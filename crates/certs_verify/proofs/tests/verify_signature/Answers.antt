use Rattle.std.proofs.Common.{rules}
use Rattle.certs_verify.specs.certs_extension.Verified.{PassesAt, nothing, IsSignedBy}
use Rattle.certs_verify.specs.certs_extension.declared.forms.VerificationTest.TheVariants as test
use Rattle.certs_verify.proofs.TestChains.{fails_at_once}
use Rattle.certs_verify.proofs.tests.verify_signature.Goals as goal

pub returns-then-is_err-clause-answers : goal.returns-then-is_err-clause-answers
returns-then-is_err-clause-answers g c now =
    let bad : IsSignedBy (g.V.Verifier.says c.args.verifier.now) c.args.issuer.now.tbs.key c.args.cert.now.signed → ⊥ = search rules in
    fails_at_once (PassesAt (g.V.Verifier.says c.args.verifier.now) now c.args.issuer.now nothing c.args.cert.now) test.BadSignature _ bad
