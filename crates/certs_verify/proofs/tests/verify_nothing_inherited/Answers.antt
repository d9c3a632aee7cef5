use Rattle.std.proofs.Common.{rules, ◌≡◌, ◌≢◌, [], ◌∷◌}
use Rattle.certs_verify.specs.certs_extension.Verified.{PassesAt, nothing}
use Rattle.certs_verify.specs.certs_extension.declared.forms.VerificationTest.TheVariants as test
use Rattle.certs_verify.proofs.Chains.{fails_next}
use Rattle.certs_verify.proofs.TestChains.{fails_at_once}
use Rattle.certs_verify.specs.resources_chain.declared.choice.ResourcesChoice.TheVariants.{Inherit}
use Rattle.certs_verify.proofs.tests.verify_nothing_inherited.Goals as goal

pub returns-then-is_inherited-clause-answers : goal.returns-then-is_inherited-clause-answers
returns-then-is_inherited-clause-answers c good now issuer =
    let v4 : c.args.cert.now.tbs.v4 ≡ Inherit = search rules in
    fails_at_once (PassesAt good now issuer nothing c.args.cert.now) test.InheritedV4 _ (λ p. p v4)

pub returns-then-is_inherited-2-clause-answers : goal.returns-then-is_inherited-2-clause-answers
returns-then-is_inherited-2-clause-answers c good now issuer =
    let v4 : c.args.cert.now.tbs.v4 ≢ Inherit = search rules in
    let v6 : c.args.cert.now.tbs.v6 ≡ Inherit = search rules in
    let P = PassesAt good now issuer nothing c.args.cert.now in
    fails_next P (test.InheritedV4 ∷ []) _ test.InheritedV6 (v4, tt) (fails_at_once P test.InheritedV6 _ (λ p. p v6))

pub returns-then-is_inherited-3-clause-answers : goal.returns-then-is_inherited-3-clause-answers
returns-then-is_inherited-3-clause-answers c good now issuer =
    let v4 : c.args.cert.now.tbs.v4 ≢ Inherit = search rules in
    let v6 : c.args.cert.now.tbs.v6 ≢ Inherit = search rules in
    let asn : c.args.cert.now.tbs.asn ≡ Inherit = search rules in
    let P = PassesAt good now issuer nothing c.args.cert.now in
    fails_next P (test.InheritedV4 ∷ test.InheritedV6 ∷ []) _ test.InheritedAs (v4, (v6, tt)) (fails_at_once P test.InheritedAs _ (λ p. p asn))
