use Rattle.std.proofs.Common.{[], ◌∷◌, ◌++◌}
use Rattle.certs_verify.specs.certs_extension.Verified.{IsSignedAt, PassesAt, held_by, validity, issuer_claim}
use Rattle.certs_verify.specs.certs_extension.declared.forms.VerificationTest.TheVariants as test
use Rattle.certs_verify.proofs.Chains.{answers_next}
use Rattle.certs_verify.proofs.Memories.{memory_where, other_handed_on, signed_below, signed_where}
use Rattle.certs_verify.proofs.Refusals.{below_passed, below_refused, below_untold}
use Rattle.certs_verify.proofs.below.verify_below.Goals as goal

pub returns-in_err-signed-clause-answers : goal.returns-in_err-signed-clause-answers
returns-in_err-signed-clause-answers g c =
    below_refused (g.V.Verifier.says c.args.verifier.now) c.args.now c.as_cert.result.now c.args.issuer.now.holder c.args.cert.now (test.OverclaimV4 ∷ test.OverclaimV6 ∷ test.OverclaimAs ∷ [])
    c.in_err-signed.field-0.0 _ c.as_cert.ensures c.from_residual.ensures c.in_err-signed.ensures.answers

pub returns-in_err-signed-clause-outside : goal.returns-in_err-signed-clause-outside
returns-in_err-signed-clause-outside g c =
    below_untold (g.V.Verifier.says c.args.verifier.now) c.args.now c.as_cert.result.now c.args.issuer.now.holder c.args.cert.now
    c.in_err-signed.field-0.0 _ c.from_residual.ensures c.in_err-signed.ensures.answers

pub returns-in_err-signed-clause-memory : goal.returns-in_err-signed-clause-memory
returns-in_err-signed-clause-memory g c =
    other_handed_on (IsSignedAt (g.V.Verifier.says c.args.verifier.now) c.args.now c.args.issuer.now.holder.cert c.args.cert.now)
    c.in_err-signed.field-0.0 _ c.from_residual.ensures c.in_err-signed.ensures.no_memory

pub returns-clause-answers : goal.returns-clause-answers
returns-clause-answers g c =
    let good = g.V.Verifier.says c.args.verifier.now in
    let issuer = c.args.issuer.now.holder in
    answers_next (PassesAt good c.args.now issuer.cert (held_by issuer) c.args.cert.now) (validity ++ issuer_claim ++ test.BadSignature ∷ [])
    (test.OverclaimV4 ∷ test.OverclaimV6 ∷ test.OverclaimAs ∷ []) _
    (below_passed good c.args.now c.as_cert.result.now issuer c.args.cert.now c.as_cert.ensures c.in_ok-signed.ensures.answers) (c.claim_all.ensures.answers good c.args.now)

pub returns-clause-memory : goal.returns-clause-memory
returns-clause-memory g c =
    let good = g.V.Verifier.says c.args.verifier.now in
    let issuer = c.args.issuer.now.holder.cert in
    memory_where (IsSignedAt good c.args.now issuer c.args.cert.now) c.claim_all.result
    (signed_below good c.args.now c.as_cert.result.now issuer c.args.cert.now c.as_cert.ensures c.in_ok-signed.ensures.answers)

pub returns-clause-signed : goal.returns-clause-signed
returns-clause-signed g c =
    let good = g.V.Verifier.says c.args.verifier.now in
    let issuer = c.args.issuer.now.holder.cert in
    signed_where (IsSignedAt good c.args.now issuer c.args.cert.now) c.claim_all.result
    (signed_below good c.args.now c.as_cert.result.now issuer c.args.cert.now c.as_cert.ensures c.in_ok-signed.ensures.answers)
