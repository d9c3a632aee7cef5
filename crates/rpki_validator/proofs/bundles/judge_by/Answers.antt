use Rattle.std.proofs.Common.{ap}
use Rattle.rpki_validator.specs.rpki_rules.World.{World}
use Rattle.rpki_steps.specs.rpki_standing.Readers.{world_by}
use Rattle.rpki_rules.specs.Views.{witness_of}
use Rattle.rpki_validator.proofs.Reading.{same_witness}
use Rattle.rpki_validator.proofs.bundles.judge_by.Goals as goal

pub returns-clause-same : goal.returns-clause-same
returns-clause-same g c = ap (λ (w : World). w.good) c.judge.ensures.same

pub returns-clause-read : goal.returns-clause-read
returns-clause-read g c =
    let w = world_by g.D.Digester.sha256_digest g.D.Digester.sha1_digest g.V.Verifier.says c.args.evidence.now.reader in
    same_witness (λ j. j.points) w (witness_of c.args.witness.now) c.as_slice-locator.result.now c.as_slice-object.result.now c.chain.result.now c.judge.result c.judge.ensures.read (cc) (cc) (cc)
