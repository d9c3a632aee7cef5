use Rattle.std.proofs.Common.{◌≡◌, subst}
use Rattle.objects_cms.specs.Content.{VerifiesContent, object_with}
use Rattle.objects_cms.specs.certs_key.Digesting.{digests_of}
use Rattle.objects_cms.specs.objects_payload.ObjectText.{Object}
use Rattle.objects_cms.proofs.signed.object.SignedObject.verify_content.Goals as goal

pub returns-clause-answers : goal.returns-clause-answers
returns-clause-answers g c =
    let d = digests_of g.D.Digester.sha256_digest g.D.Digester.sha1_digest c.args.digester.now in
    let v = g.V.Verifier.says c.args.verifier.now in
    let o = c.args.self.now in
    let same : object_with o.content_type c.content-content.result.now c.cert-cert.result.now c.signer-signer.result.now ≡ o =
    λ i. record { content_type = o.content_type; content = c.content-content.ensures i; cert = c.cert-cert.ensures i; signer = c.signer-signer.ensures i } in
    subst (λ (x : Object). VerifiesContent d v x c.verify_content.result) same (c.verify_content.ensures.answers o.content_type)
