use Rattle.certs_verify.specs.certs_extension.Verified.{PassesAt, anchor_tests, nothing}
use Rattle.objects_rta_valid.proofs.Passing.{passed_told}
use Rattle.objects_rta_valid.proofs.certs.is_anchor.Goals as goal

pub returns-clause-anchor : goal.returns-clause-anchor
returns-clause-anchor g c =
    passed_told (PassesAt (g.V.Verifier.says c.args.verifier.now) c.args.now c.args.cert.now nothing c.args.cert.now) anchor_tests c.verify_ta_ref_at.result c.is_ok.result c.is_ok.ensures.value
    c.verify_ta_ref_at.ensures.answers c.verify_ta_ref_at.ensures.no_memory
