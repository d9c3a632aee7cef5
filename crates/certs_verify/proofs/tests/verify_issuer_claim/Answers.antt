use Rattle.std.proofs.Common.{rules, ◌≡◌, ◌≢◌, [], ◌∷◌, Some, None}
use Rattle.certs_verify.specs.certs_extension.Verified.{PassesAt, nothing}
use Rattle.certs_verify.specs.certs_extension.declared.forms.VerificationTest.TheVariants as test
use Rattle.certs_verify.proofs.Chains.{fails_next}
use Rattle.certs_verify.proofs.TestChains.{fails_at_once}
use Rattle.certs_verify.proofs.tests.verify_issuer_claim.Goals as goal

pub returns-in_default-clause-answers : goal.returns-in_default-clause-answers
returns-in_default-clause-answers c good now =
    let none : c.args.cert.now.tbs.authority_key_identifier ≡ None = search rules in
    fails_at_once (PassesAt good now c.args.issuer.now nothing c.args.cert.now) test.AuthorityKeyMissing _ (λ p. p none)

pub returns-then-ne-clause-answers : goal.returns-then-ne-clause-answers
returns-then-ne-clause-answers c good now =
    let there : c.args.cert.now.tbs.authority_key_identifier ≢ None = search rules in
    let other : c.args.cert.now.tbs.authority_key_identifier ≢ Some c.args.issuer.now.tbs.subject_key_identifier = search rules in
    let P = PassesAt good now c.args.issuer.now nothing c.args.cert.now in
    fails_next P (test.AuthorityKeyMissing ∷ []) _ test.AuthorityKeyMismatch (there, tt) (fails_at_once P test.AuthorityKeyMismatch _ other)

pub returns-then-is_none-clause-answers : goal.returns-then-is_none-clause-answers
returns-then-is_none-clause-answers c good now =
    let there : c.args.cert.now.tbs.authority_key_identifier ≢ None = search rules in
    let same : c.args.cert.now.tbs.authority_key_identifier ≡ Some c.args.issuer.now.tbs.subject_key_identifier = search rules in
    let none : c.args.cert.now.tbs.ca_issuer ≡ None = search rules in
    let P = PassesAt good now c.args.issuer.now nothing c.args.cert.now in
    fails_next P (test.AuthorityKeyMissing ∷ test.AuthorityKeyMismatch ∷ []) _ test.AiaMissing (there, (same, tt)) (fails_at_once P test.AiaMissing _ (λ p. p none))
