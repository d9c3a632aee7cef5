use Rattle.std.proofs.Common.{rules, []}
use Rattle.certs_verify.specs.certs_extension.Verified.{PassesAt, held_by}
use Rattle.certs_verify.specs.certs_extension.declared.forms.VerificationTest.TheVariants as test
use Rattle.certs_verify.proofs.TestChains.{fails_at_once}
use Rattle.certs_verify.proofs.claims.claim_as.Goals as goal

pub returns-in-Err-Overclaimed-clause-answers : goal.returns-in-Err-Overclaimed-clause-answers
returns-in-Err-Overclaimed-clause-answers c good now =
    fails_at_once (PassesAt good now c.args.issuer.now.holder.cert (held_by c.args.issuer.now.holder) c.args.cert.now) test.OverclaimAs [] (search rules)
