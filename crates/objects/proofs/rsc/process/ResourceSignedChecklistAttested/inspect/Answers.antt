use Rattle.objects_valid.specs.certs_key.Digesting.{digests_of}
use Rattle.objects_valid.specs.certs_extension.declared.forms.Role.TheVariants.{DetachedEe}
use Rattle.objects_valid.proofs.Accepting.{inspects_by}
use Rattle.objects.proofs.rsc.process.ResourceSignedChecklistAttested.inspect.Goals as goal

pub returns : goal.returns
returns g c =
    let d = digests_of g.D.Digester.sha256_digest g.D.Digester.sha1_digest c.args.digester.now in
    inspects_by d c.args.strict DetachedEe c.args.cert.now c.inspect_detached_ee.result c.inspect_detached_ee.ensures.passed c.inspect_detached_ee.ensures.refused
