use Rattle.std.proofs.Common.{[], ◌∷◌, Ok, Err}
use Rattle.rpki_standing.specs.certs_extension.Verified.{PassesAt, issuer_claim, nothing, validity}
use Rattle.rpki_standing.specs.certs_extension.declared.forms.VerificationTest.TheVariants.{BadSignature}
use Rattle.rpki_standing.proofs.TestsTold.{claim_fails, is_test, signature_told, test_answers, validity_fails}
use Rattle.rpki_standing.proofs.signed.issued.check_signed.Goals as goal

pub test_told-requires : goal.test_told-requires
test_told-requires g c =
    let v = g.V.Verifier.says c.args.reader.now.verifier.now in
    let r = c.verify_validity-valid in
    is_test (PassesAt v c.moment.result c.args.issuer.now nothing c.args.cert.now) validity r.result (r.ensures.answers v c.args.issuer.now) r.ensures.no_memory

pub test_told-requires-2 : goal.test_told-requires-2
test_told-requires-2 g c =
    let v = g.V.Verifier.says c.args.reader.now.verifier.now in
    let r = c.verify_issuer_claim-claimed in
    is_test (PassesAt v c.moment.result c.args.issuer.now nothing c.args.cert.now) issuer_claim r.result (r.ensures.answers v c.moment.result) r.ensures.no_memory

pub test_told-requires-3 : goal.test_told-requires-3
test_told-requires-3 g c =
    let v = g.V.Verifier.says c.args.reader.now.verifier.now in
    let r = c.verify_signature-signed in
    is_test (PassesAt v c.moment.result c.args.issuer.now nothing c.args.cert.now) (BadSignature ∷ []) r.result (r.ensures.answers c.moment.result) r.ensures.no_memory

pub returns-in-Err-clause-told : goal.returns-in-Err-clause-told
returns-in-Err-clause-told g c =
    let v = g.V.Verifier.says c.args.reader.now.verifier.now in
    let P = PassesAt v c.moment.result c.args.issuer.now nothing c.args.cert.now in
    rw c.moment.ensures at (validity_fails P c.in-Err.test (test_answers P validity c.verify_validity-valid.result (Err c.in-Err.test) (c.verify_validity-valid.ensures.answers v c.args.issuer.now) c.in-Err.ensures))

pub returns-in-Err-test_told-clause-told : goal.returns-in-Err-test_told-clause-told
returns-in-Err-test_told-clause-told g c =
    let v = g.V.Verifier.says c.args.reader.now.verifier.now in
    let P = PassesAt v c.moment.result c.args.issuer.now nothing c.args.cert.now in
    let valid = test_answers P validity c.verify_validity-valid.result (Ok c.in_default.field-0) (c.verify_validity-valid.ensures.answers v c.args.issuer.now) c.in_default.ensures in
    rw c.moment.ensures at (claim_fails P valid c.in-Err-test_told.test (test_answers P issuer_claim c.verify_issuer_claim-claimed.result (Err c.in-Err-test_told.test) (c.verify_issuer_claim-claimed.ensures.answers v c.moment.result) c.in-Err-test_told.ensures))

pub returns-clause-told : goal.returns-clause-told
returns-clause-told g c =
    let v = g.V.Verifier.says c.args.reader.now.verifier.now in
    let P = PassesAt v c.moment.result c.args.issuer.now nothing c.args.cert.now in
    let valid = test_answers P validity c.verify_validity-valid.result (Ok c.in_default.field-0) (c.verify_validity-valid.ensures.answers v c.args.issuer.now) c.in_default.ensures in
    let claimed = test_answers P issuer_claim c.verify_issuer_claim-claimed.result (Ok c.in_default-test_told.field-0) (c.verify_issuer_claim-claimed.ensures.answers v c.moment.result) c.in_default-test_told.ensures in
    rw c.moment.ensures at (signature_told P valid claimed c.test_told-3.result (test_answers P (BadSignature ∷ []) c.verify_signature-signed.result c.test_told-3.result (c.verify_signature-signed.ensures.answers c.moment.result) c.test_told-3.ensures))
