use Rattle.std.proofs.Common.{rules}
use Rattle.objects_cms.specs.certs_key.Digesting.{digests_of}
use Rattle.objects_cms.specs.Content.{HasDigest, IsInTime, object_with}
use Rattle.objects_cms.proofs.Messages.{signature_decides}
use Rattle.objects_cms.proofs.verify.content.verify_content.Goals as goal

pub returns-clause-answers : goal.returns-clause-answers
returns-clause-answers g c content_type =
    let d = digests_of g.D.Digester.sha256_digest g.D.Digester.sha1_digest c.args.digester.now in
    let o = object_with content_type c.args.content.now c.args.cert.now c.args.signer.now in
    let digest : HasDigest d o = search rules in
    let time : IsInTime o = search rules in
    signature_decides d (g.V.Verifier.says c.args.verifier.now) c.args.cert.now c.args.signer.now c.verify_signature.result content_type c.args.content.now digest time c.verify_signature.ensures.signed c.verify_signature.ensures.fails
