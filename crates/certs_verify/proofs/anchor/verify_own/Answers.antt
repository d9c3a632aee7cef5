use Rattle.std.proofs.Common.{[], ◌∷◌}
use Rattle.certs_verify.specs.certs_extension.Verified.{IsAnchorAt, PassesAt, anchor_tests, nothing}
use Rattle.certs_verify.specs.certs_extension.declared.forms.VerificationTest.TheVariants as test
use Rattle.certs_verify.proofs.Chains.{handed_on}
use Rattle.certs_verify.proofs.Memories.{answers_after, memory_where, other_handed_on}
use Rattle.certs_verify.proofs.anchor.verify_own.Goals as goal

pub returns-in_err-passed-clause-answers : goal.returns-in_err-passed-clause-answers
returns-in_err-passed-clause-answers g c =
    let good = g.V.Verifier.says c.args.verifier.now in
    handed_on (PassesAt good c.args.now c.args.cert.now nothing c.args.cert.now) [] anchor_tests []
    c.in_err-passed.field-0.0 _ c.from_residual.ensures tt c.in_err-passed.ensures.answers

pub returns-in_err-passed-clause-memory : goal.returns-in_err-passed-clause-memory
returns-in_err-passed-clause-memory g c =
    other_handed_on (IsAnchorAt (g.V.Verifier.says c.args.verifier.now) c.args.now c.args.cert.now)
    c.in_err-passed.field-0.0 _ c.from_residual.ensures c.in_err-passed.ensures.no_memory

pub returns-clause-answers : goal.returns-clause-answers
returns-clause-answers g c =
    let good = g.V.Verifier.says c.args.verifier.now in
    let P = PassesAt good c.args.now c.args.cert.now nothing c.args.cert.now in
    let all = c.in_ok-passed.ensures.answers in
    answers_after P anchor_tests (test.InheritedV4 ∷ test.InheritedV6 ∷ test.InheritedAs ∷ []) _ all (all.1.1.0, (all.1.1.1.0, (all.1.1.1.1.0, tt)))
    (c.own_all.ensures.answers good c.args.now c.args.cert.now)

pub returns-clause-memory : goal.returns-clause-memory
returns-clause-memory g c =
    memory_where (IsAnchorAt (g.V.Verifier.says c.args.verifier.now) c.args.now c.args.cert.now) c.own_all.result c.in_ok-passed.ensures.answers
