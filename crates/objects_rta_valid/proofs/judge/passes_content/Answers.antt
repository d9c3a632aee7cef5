use Rattle.certs_verify.specs.certs_key.Digesting.{digests_of}
use Rattle.std.proofs.Common.{◌∙◌}
use Rattle.objects_rta_valid.proofs.Judging.{content_told}
use Rattle.objects_rta_valid.proofs.judge.passes_content.Goals as goal

pub returns-clause-passes : goal.returns-clause-passes
returns-clause-passes g c =
    content_told (digests_of g.D.Digester.sha256_digest g.D.Digester.sha1_digest c.args.digester.now) (g.V.Verifier.says c.args.verifier.now) c.args.rta.now c.args.paths.now.paths
    c.signed.result.now c.as_slice.result.now c.are_sound.result c.requires.walk.only c.signed.ensures (c.as_slice.ensures.value ∙ c.in_ok-firsts.ensures) c.are_sound.ensures.sound
