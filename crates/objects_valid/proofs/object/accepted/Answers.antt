use Rattle.objects_valid.specs.certs_extension.declared.forms.Role.TheVariants.{Ee}
use Rattle.certs_verify.specs.certs_key.Digesting.{digests_of}
use Rattle.objects_valid.proofs.Accepting.{inspects_own}
use Rattle.objects_valid.proofs.object.accepted.Goals as goal

pub returns-clause-validates : goal.returns-clause-validates
returns-clause-validates g c =
    let d = digests_of g.D.Digester.sha256_digest g.D.Digester.sha1_digest c.args.terms.now.digester.now in
    c.validate.ensures.validates Ee
    (inspects_own d c.args.terms.now.strict Ee c.args.signed.cert c.cert.result.now c.inspect_ee-form.result c.cert.ensures c.inspect_ee-form.ensures.passed c.inspect_ee-form.ensures.refused)
