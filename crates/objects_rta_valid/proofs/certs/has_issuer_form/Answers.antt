use Rattle.certs_verify.specs.certs_key.Digesting.{digests_of}
use Rattle.objects_rta_valid.proofs.Passing.{ok_told}
use Rattle.objects_rta_valid.proofs.Standing.{told_not}
use Rattle.objects_rta_valid.proofs.Vouching.{form_itself, form_other}
use Rattle.objects_rta_valid.proofs.certs.has_issuer_form.Goals as goal

pub returns-then-names_itself : goal.returns-then-names_itself
returns-then-names_itself g c =
    let d = digests_of g.D.Digester.sha256_digest g.D.Digester.sha1_digest c.args.digester.now in
    form_itself d c.args.strict c.args.cert.now c.is_ok.result (c.names_itself.ensures.0 c.if-names_itself.true)
    (ok_told c.inspect_ta.result c.is_ok.result c.is_ok.ensures.value c.inspect_ta.ensures.passed)

pub returns : goal.returns
returns g c =
    let d = digests_of g.D.Digester.sha256_digest g.D.Digester.sha1_digest c.args.digester.now in
    form_other d c.args.strict c.args.cert.now c.is_ok-2.result (told_not c.names_itself.result c.names_itself.ensures c.if-names_itself.false)
    (ok_told c.inspect_ca.result c.is_ok-2.result c.is_ok-2.ensures.value c.inspect_ca.ensures.passed)
