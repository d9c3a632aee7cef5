use Rattle.certs_cert.specs.certs_extension.Profiles.{Passes, tests}
use Rattle.std.proofs.Common.{List, subst}
use Rattle.certs_cert.specs.certs_extension.declared.forms.InspectionError.{InspectionError}
use Rattle.certs_verify.specs.TestAnswers.{Answers}
use Rattle.certs_verify.specs.certs_key.Digesting.{digests_of}
use Rattle.certs_verify.proofs.TestChains.{answers_ok, answers_err}
use Rattle.certs_verify.proofs.inspect.inspect.run.Goals as goal

pub returns : goal.returns
returns g c =
    let P = Passes (digests_of g.D.Digester.sha256_digest g.D.Digester.sha1_digest c.args.digester.now) c.args.strict c.args.role c.args.cert.now in
    let answers = subst (λ (xs : List InspectionError). Answers P xs c.run_tests.result) c.tests-tests.ensures c.run_tests.ensures in
    record { passed = answers_ok P (tests c.args.role) c.run_tests.result answers; refused = answers_err P (tests c.args.role) c.run_tests.result answers }
