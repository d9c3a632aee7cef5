use Rattle.std.proofs.Common.{rules, ◌≡◌, []}
use Rattle.certs_verify.specs.certs_extension.Verified.{PassesAt, nothing}
use Rattle.certs_verify.specs.certs_extension.declared.forms.VerificationTest.TheVariants as test
use Rattle.certs_verify.specs.resources_chain.declared.choice.ResourcesChoice.TheVariants.{Inherit}
use Rattle.certs_verify.proofs.TestChains.{fails_at_once}
use Rattle.certs_verify.proofs.claims.own_v6.Goals as goal

pub returns-in-Err-Inherited-clause-answers : goal.returns-in-Err-Inherited-clause-answers
returns-in-Err-Inherited-clause-answers c good now issuer =
    let inherits : c.args.cert.now.tbs.v6 ≡ Inherit = search rules in
    fails_at_once (PassesAt good now issuer nothing c.args.cert.now) test.InheritedV6 [] (λ p. p inherits)
