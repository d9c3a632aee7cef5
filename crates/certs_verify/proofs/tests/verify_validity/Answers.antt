use Rattle.std.proofs.Common.{rules, ◌<◌, ◌≤◌, arith, [], ◌∷◌}
use Rattle.certs_verify.specs.certs_extension.Verified.{PassesAt, nothing}
use Rattle.certs_verify.specs.certs_extension.declared.forms.VerificationTest.TheVariants as test
use Rattle.certs_verify.proofs.Chains.{fails_next}
use Rattle.certs_verify.proofs.TestChains.{fails_at_once}
use Rattle.certs_verify.proofs.tests.verify_validity.Goals as goal

pub returns-then-lt-clause-answers : goal.returns-then-lt-clause-answers
returns-then-lt-clause-answers c good issuer =
    let early : c.args.now < c.args.cert.now.tbs.not_before = search rules in
    fails_at_once (PassesAt good c.args.now issuer nothing c.args.cert.now) test.NotYetValid _ (λ p. omega (arith, p, early))

pub returns-then-gt-clause-answers : goal.returns-then-gt-clause-answers
returns-then-gt-clause-answers c good issuer =
    let begun : c.args.cert.now.tbs.not_before ≤ c.args.now = search rules in
    let late : c.args.cert.now.tbs.not_after < c.args.now = search rules in
    let P = PassesAt good c.args.now issuer nothing c.args.cert.now in
    fails_next P (test.NotYetValid ∷ []) _ test.Expired (begun, tt) (fails_at_once P test.Expired _ (λ p. omega (arith, p, late)))
