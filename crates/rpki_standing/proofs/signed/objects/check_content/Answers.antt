use Rattle.rpki_standing.specs.certs_key.Digesting.{digests_of}
use Rattle.rpki_rules.specs.World.{world_of}
use Rattle.rpki_rules.proofs.ReasonTests.{passes_content}
use Rattle.rpki_standing.proofs.Contents.{test_fails}
use Rattle.rpki_standing.proofs.signed.objects.check_content.Goals as goal

pub returns-in-Ok-clause-told : goal.returns-in-Ok-clause-told
returns-in-Ok-clause-told g c b =
    let w = world_of (digests_of g.D.Digester.sha256_digest g.D.Digester.sha1_digest c.args.digester.now) (g.V.Verifier.says c.args.verifier.now) b in
    passes_content w c.args.signed.now (rw (c.content.ensures, c.cert.ensures, c.signer.ensures, c.in-Ok.is) at (c.verify_content-verified.ensures.answers c.args.signed.now.content_type))

pub returns-in-Some-clause-told : goal.returns-in-Some-clause-told
returns-in-Some-clause-told g c b =
    let w = world_of (digests_of g.D.Digester.sha256_digest g.D.Digester.sha1_digest c.args.digester.now) (g.V.Verifier.says c.args.verifier.now) b in
    test_fails w c.args.signed.now c.in-Some.test c.in-Err.error (rw (c.content.ensures, c.cert.ensures, c.signer.ensures, c.in-Err.is) at (c.verify_content-verified.ensures.answers c.args.signed.now.content_type))
    c.in-Some.ensures.digest c.in-Some.ensures.time c.in-Some.ensures.signature
