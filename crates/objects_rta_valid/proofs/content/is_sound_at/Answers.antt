use Rattle.certs_verify.specs.certs_key.Digesting.{digests_of}
use Rattle.objects_rta.specs.objects_cms.Signer.{signer_fields}
use Rattle.objects_rta.specs.objects_payload.ObjectText.{signer_of}
use Rattle.objects_rta_valid.proofs.Sounding.{none_at, sound_at}
use Rattle.objects_rta_valid.proofs.content.is_sound_at.Goals as goal

pub returns-in-Some-clause-sound : goal.returns-in-Some-clause-sound
returns-in-Some-clause-sound g c =
    sound_at (digests_of g.D.Digester.sha256_digest g.D.Digester.sha1_digest c.args.digester.now) (g.V.Verifier.says c.args.verifier.now) c.args.signed.now c.args.signer.now c.args.place
    c.certificates.result.now c.content.result.now c.in-Some.cert.now c.is_sound.result c.certificates.ensures c.content.ensures c.in-Some.ensures c.is_sound.ensures.sound

pub returns-in-None-clause-sound : goal.returns-in-None-clause-sound
returns-in-None-clause-sound g c =
    none_at (digests_of g.D.Digester.sha256_digest g.D.Digester.sha1_digest c.args.digester.now) (g.V.Verifier.says c.args.verifier.now) c.args.signed.now (signer_of (signer_fields c.args.signer.now)) c.args.place
    c.certificates.result.now c.certificates.ensures c.in-None.ensures
