use Rattle.rpki_rules.specs.World.{world_of}
use Rattle.rpki_standing.proofs.Following.{holds_at, holds_nowhere}
use Rattle.rpki_standing.proofs.anchors.lookup.follow.Goals as goal

pub returns-in-Some-clause-lead : goal.returns-in-Some-clause-lead
returns-in-Some-clause-lead c = λ d v.
    let o = c.in-Some.object.now in
    holds_at (world_of d v c.args.index.now) c.args.locator.now c.in-Ok.tal c.prefer_https.new.self _ o.uri o.octets (rw c.in-Ok.is at c.in_ok-tal.ensures.text) c.prefer_https.ensures c.uris.ensures (c.in-Some.ensures d v)

pub returns-clause-lead : goal.returns-clause-lead
returns-clause-lead c = λ d v.
    holds_nowhere (world_of d v c.args.index.now) c.args.locator.now c.in-Ok.tal c.prefer_https.new.self _ (rw c.in-Ok.is at c.in_ok-tal.ensures.text) c.prefer_https.ensures c.uris.ensures (c.in-None.ensures d v)
