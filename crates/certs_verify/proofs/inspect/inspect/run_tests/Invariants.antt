use Rattle.std.proofs.Common.{length, Result}
use Rattle.certs_cert.specs.certs_extension.declared.forms.InspectionError.{InspectionError}
use Rattle.certs_cert.specs.certs_extension.Profiles.{Passes}
use Rattle.certs_verify.specs.certs_key.Digesting.{digests_of}
use Rattle.certs_verify.specs.TestAnswers.{Answers}
use Rattle.certs_verify.proofs.inspect.inspect.run_tests.Given as goal

-- What the rest answers, all tests answer.
abbrev pub invariant-loop-test : goal.invariant-loop-test
invariant-loop-test g l =
    (r : Result (Unit {0}) InspectionError)
    → Answers (Passes (digests_of g.D.Digester.sha256_digest g.D.Digester.sha1_digest l.fn.digester) l.fn.strict l.fn.role l.fn.cert) l.rest r
    → Answers (Passes (digests_of g.D.Digester.sha256_digest g.D.Digester.sha1_digest l.fn.digester) l.fn.strict l.fn.role l.fn.cert) l.fn.tests r

abbrev pub decreases-loop-test : goal.decreases-loop-test
decreases-loop-test g l = length l.rest
