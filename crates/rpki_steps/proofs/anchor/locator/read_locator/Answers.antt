use Rattle.rpki_standing.specs.Readers.{world_by}
use Rattle.rpki_steps.proofs.AnchorLemmas.{found_led, nowhere}
use Rattle.rpki_steps.proofs.anchor.locator.read_locator.Goals as goal

pub returns-in-Ok-clause-led : goal.returns-in-Ok-clause-led
returns-in-Ok-clause-led g c =
    found_led _ c.args.locator.now c.in-Ok.anchor (rw c.in-Ok.is at c.in_ok-anchor.ensures.judged)

pub returns-in-BadText-clause-led : goal.returns-in-BadText-clause-led
returns-in-BadText-clause-led g c =
    let w = world_by g.D.Digester.sha256_digest g.D.Digester.sha1_digest g.V.Verifier.says c.args.reader.now in
    rw c.in-BadText.is at (c.locator_reasons_refuse.ensures w c.args.locator.now c.in-Err.reason (rw c.in-Err.is at c.in_ok-anchor.ensures.judged))

pub returns-in_default-clause-led : goal.returns-in_default-clause-led
returns-in_default-clause-led g c =
    let w = world_by g.D.Digester.sha256_digest g.D.Digester.sha1_digest g.V.Verifier.says c.args.reader.now in
    nowhere w c.args.locator.now c.in-Err.reason c.in_default.not-BadText (c.locator_reasons_refuse.ensures w c.args.locator.now c.in-Err.reason (rw c.in-Err.is at c.in_ok-anchor.ensures.judged))
