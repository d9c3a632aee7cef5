use Rattle.std.proofs.Common.{subst}
use Rattle.certs_verify.specs.certs_key.Digesting.{digests_of}
use Rattle.certs_verify.specs.Validated.{Inspects}
use Rattle.objects_valid.proofs.Signing.{signed_by}
use Rattle.objects_valid.proofs.inspected.verify_signed.Goals as goal

pub returns-in-Ok-clause-verifies : goal.returns-in-Ok-clause-verifies
returns-in-Ok-clause-verifies g c strict role i =
    let d = digests_of g.D.Digester.sha256_digest g.D.Digester.sha1_digest c.args.digester.now in
    let v = g.V.Verifier.says c.args.verifier.now in
    let o = c.args.signed.now in
    signed_by d v strict role o c.verify_sound.result (subst (Inspects d strict role o.cert) c.in-Ok.is i) c.verify_sound.ensures.verifies
