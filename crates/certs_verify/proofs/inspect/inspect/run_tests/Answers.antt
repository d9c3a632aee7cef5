use Rattle.std.proofs.Common.{List, Ok, Err, subst, sym}
use Rattle.certs_cert.specs.certs_extension.declared.forms.InspectionError.{InspectionError}
use Rattle.certs_cert.specs.certs_extension.Profiles.{Passes}
use Rattle.certs_verify.specs.certs_basics.Lists.{FirstFailing}
use Rattle.certs_verify.specs.certs_key.Digesting.{digests_of}
use Rattle.certs_verify.specs.TestAnswers.{Answers}
use Rattle.certs_verify.proofs.TestChains.{fails_at_once, passes_first, none_left}
use Rattle.certs_verify.proofs.inspect.inspect.run_tests.Goals as goal

pub returns-then-not-passes : goal.returns-then-not-passes
returns-then-not-passes g c =
    let P = Passes (digests_of g.D.Digester.sha256_digest g.D.Digester.sha1_digest c.args.digester.now) c.args.strict c.args.role c.args.cert.now in
    let test = c.in-Some.test.now in
    c.loop-test.invariant (Err test)
    (subst (λ (xs : List InspectionError). FirstFailing P xs test) (sym c.in-Some.ensures.cases.0)
    (fails_at_once P test c.in-Some.others.now (λ p. let yes = c.passes.ensures.1 p in let no = c.if-not-passes.true in absurd cc)))

pub loop-test-preserved : goal.loop-test-preserved
loop-test-preserved g c r a =
    let P = Passes (digests_of g.D.Digester.sha256_digest g.D.Digester.sha1_digest c.args.digester.now) c.args.strict c.args.role c.args.cert.now in
    c.loop-test.invariant r
    (subst (λ (xs : List InspectionError). Answers P xs r) (sym c.in-Some.ensures.cases.0)
    (passes_first P c.in-Some.test.now c.in-Some.others.now r (c.passes.ensures.0 c.if-not-passes.false) a))

pub returns : goal.returns
returns g c =
    let P = Passes (digests_of g.D.Digester.sha256_digest g.D.Digester.sha1_digest c.args.digester.now) c.args.strict c.args.role c.args.cert.now in
    c.loop-test.invariant (Ok tt) (none_left P c.loop-test.rest.now c.in_default.ensures.cases)
