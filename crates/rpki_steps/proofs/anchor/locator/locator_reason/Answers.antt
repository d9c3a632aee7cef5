use Rattle.rpki_standing.specs.Readers.{world_by}
use Rattle.rpki_steps.proofs.AnchorLemmas.{no_reason}
use Rattle.rpki_steps.proofs.anchor.locator.locator_reason.Goals as goal

pub returns-in-Ok-clause-reason : goal.returns-in-Ok-clause-reason
returns-in-Ok-clause-reason g c =
    let w = world_by g.D.Digester.sha256_digest g.D.Digester.sha1_digest g.V.Verifier.says c.args.reader.now in
    no_reason w c.args.locator.now (c.locator_reasons_refuse.ensures w c.args.locator.now) c.in-Ok.anchor (rw c.in-Ok.is at c.in_ok-anchor.ensures.judged)
