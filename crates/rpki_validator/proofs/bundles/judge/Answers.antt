use Rattle.rpki_validator.specs.certs_key.Digesting.{digests_of}
use Rattle.rpki_validator.specs.rpki_rules.World.{world_of}
use Rattle.rpki_rules.specs.Views.{witness_of}
use Rattle.rpki_validator.proofs.Reading.{same_world}
use Rattle.rpki_validator.proofs.bundles.judge.Goals as goal

pub returns-clause-read : goal.returns-clause-read
returns-clause-read g c =
    let d = digests_of g.D.Digester.sha256_digest g.D.Digester.sha1_digest c.args.digester.now in
    same_world (λ j. j.points) _ (world_of d (g.V.Verifier.says c.args.verifier.now) c.args.bundle.now) (witness_of c.args.witness.now) c.judge_by-judged.result c.judge_by-judged.ensures.read (cc)
