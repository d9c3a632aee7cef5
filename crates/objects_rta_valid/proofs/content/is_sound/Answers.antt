use Rattle.certs_verify.specs.certs_key.Digesting.{digests_of}
use Rattle.objects_rta.specs.objects_cms.Content.{object_with}
use Rattle.objects_rta_valid.proofs.Sounding.{fails_not}
use Rattle.objects_rta_valid.proofs.Standing.{always_told, not_told, told_not}
use Rattle.objects_rta_valid.proofs.content.is_sound.Goals as goal

pub returns-in-Ok-clause-sound : goal.returns-in-Ok-clause-sound
returns-in-Ok-clause-sound g c ct = always_told (c.in-Ok.ensures.answers ct)

pub returns-else-is_memory-clause-sound : goal.returns-else-is_memory-clause-sound
returns-else-is_memory-clause-sound g c ct =
    not_told (fails_not (digests_of g.D.Digester.sha256_digest g.D.Digester.sha1_digest c.args.digester.now) (g.V.Verifier.says c.args.verifier.now) (object_with ct c.args.content.now c.args.cert.now c.args.signer.now) c.in-Err.error
    (told_not c.is_memory.result c.is_memory.ensures c.if-is_memory.false) (c.in-Err.ensures.answers ct))
