use Rattle.rpki_standing.specs.certs_extension.Verified.{PassesAt, anchor_tests, nothing}
use Rattle.rpki_standing.proofs.TestsTold.{is_test, test_answers}
use Rattle.rpki_standing.proofs.signed.anchors.check_own_issuer.Goals as goal

pub test_told-requires : goal.test_told-requires
test_told-requires g c =
    let own = c.verify_ta_ref_at-own in
    is_test (PassesAt (g.V.Verifier.says c.args.reader.now.verifier.now) c.moment.result c.args.cert.now nothing c.args.cert.now) anchor_tests own.result own.ensures.answers own.ensures.no_memory

pub returns-clause-told : goal.returns-clause-told
returns-clause-told g c =
    let own = c.verify_ta_ref_at-own in
    rw c.moment.ensures at (test_answers (PassesAt (g.V.Verifier.says c.args.reader.now.verifier.now) c.moment.result c.args.cert.now nothing c.args.cert.now) anchor_tests own.result c.test_told.result own.ensures.answers c.test_told.ensures)
