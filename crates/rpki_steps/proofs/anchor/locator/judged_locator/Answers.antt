use Rattle.rpki_standing.specs.Readers.{world_by}
use Rattle.rpki_steps.proofs.AnchorLemmas.{held_led}
use Rattle.rpki_steps.proofs.anchor.locator.judged_locator.Goals as goal

pub returns-in-Unreadable-clause-judged : goal.returns-in-Unreadable-clause-judged
returns-in-Unreadable-clause-judged g c =
    let w = world_by g.D.Digester.sha256_digest g.D.Digester.sha1_digest g.V.Verifier.says c.args.reader.now in
    rw c.in-Unreadable.is at (c.in_ok-fault.ensures.lead w.digests w.good)

pub returns-in-Nowhere-clause-judged : goal.returns-in-Nowhere-clause-judged
returns-in-Nowhere-clause-judged g c =
    let w = world_by g.D.Digester.sha256_digest g.D.Digester.sha1_digest g.V.Verifier.says c.args.reader.now in
    rw c.in-Nowhere.is at (c.in_ok-fault.ensures.lead w.digests w.good)

pub returns-in-Held-clause-judged : goal.returns-in-Held-clause-judged
returns-in-Held-clause-judged g c =
    let w = world_by g.D.Digester.sha256_digest g.D.Digester.sha1_digest g.V.Verifier.says c.args.reader.now in
    held_led w c.args.locator.now c.in-Held.tal.key c.in-Held.object.now.uri c.in-Held.object.now.octets c.lead_to-led.result (rw c.in-Held.is at (c.in_ok-fault.ensures.lead w.digests w.good)) c.lead_to-led.ensures.judged
