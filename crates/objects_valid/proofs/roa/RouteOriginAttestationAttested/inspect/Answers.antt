use Rattle.certs_verify.specs.certs_key.Digesting.{digests_of}
use Rattle.objects_valid.specs.certs_extension.declared.forms.Role.TheVariants.{Ee}
use Rattle.objects_valid.proofs.Accepting.{inspects_by}
use Rattle.objects_valid.proofs.roa.RouteOriginAttestationAttested.inspect.Goals as goal

pub returns : goal.returns
returns g c =
    let d = digests_of g.D.Digester.sha256_digest g.D.Digester.sha1_digest c.args.digester.now in
    inspects_by d c.args.strict Ee c.args.cert.now c.inspect_ee.result c.inspect_ee.ensures.passed c.inspect_ee.ensures.refused
