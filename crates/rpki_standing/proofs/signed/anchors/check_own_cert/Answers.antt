use Rattle.std.proofs.Common.{ap}
use Rattle.std.specs.Prelude.{is_ok}
use Rattle.rpki_standing.specs.certs_extension.declared.forms.Role.TheVariants.{Ta}
use Rattle.rpki_standing.specs.certs_extension.Verified.{anchor_tests}
use Rattle.rpki_standing.specs.Readers.{world_by}
use Rattle.rpki_standing.proofs.TestsTold.{cert_told, form_fails}
use Rattle.rpki_standing.proofs.signed.anchors.check_own_cert.Goals as goal

pub returns-in-Ok-clause-told : goal.returns-in-Ok-clause-told
returns-in-Ok-clause-told g c =
    let w = world_by g.D.Digester.sha256_digest g.D.Digester.sha1_digest g.V.Verifier.says c.args.reader.now in
    cert_told w Ta anchor_tests c.args.cert.now c.args.cert.now c.check_own_issuer.result c.map_err.result (c.inspect_ta.ensures.passed.0 (ap is_ok c.in-Ok.is)) c.check_own_issuer.ensures.told c.map_err.ensures.cases

pub returns-in-Err-clause-told : goal.returns-in-Err-clause-told
returns-in-Err-clause-told g c =
    let w = world_by g.D.Digester.sha256_digest g.D.Digester.sha1_digest g.V.Verifier.says c.args.reader.now in
    form_fails w Ta anchor_tests c.args.cert.now c.args.cert.now c.in-Err.test ((c.inspect_ta.ensures.refused c.in-Err.test).0 c.in-Err.is)
