use Rattle.std.proofs.Common.{ap}
use Rattle.std.specs.Prelude.{is_ok}
use Rattle.rpki_standing.specs.certs_extension.declared.forms.Role.TheVariants.{Ee}
use Rattle.rpki_standing.specs.Readers.{world_by}
use Rattle.rpki_rules.specs.Reasons.{signature_tests}
use Rattle.rpki_standing.proofs.TestsTold.{cert_told, form_fails}
use Rattle.rpki_standing.proofs.signed.issued.check_object_cert.Goals as goal

pub returns-in-Ok-clause-told : goal.returns-in-Ok-clause-told
returns-in-Ok-clause-told g c =
    let w = world_by g.D.Digester.sha256_digest g.D.Digester.sha1_digest g.V.Verifier.says c.args.reader.now in
    cert_told w Ee signature_tests c.args.issuer.now c.args.cert.now c.check_signed.result c.map_err.result (c.inspect_ee.ensures.passed.0 (ap is_ok c.in-Ok.is)) c.check_signed.ensures.told c.map_err.ensures.cases

pub returns-in-Err-clause-told : goal.returns-in-Err-clause-told
returns-in-Err-clause-told g c =
    let w = world_by g.D.Digester.sha256_digest g.D.Digester.sha1_digest g.V.Verifier.says c.args.reader.now in
    form_fails w Ee signature_tests c.args.issuer.now c.args.cert.now c.in-Err.test ((c.inspect_ee.ensures.refused c.in-Err.test).0 c.in-Err.is)
