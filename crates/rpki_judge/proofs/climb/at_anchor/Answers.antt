use Rattle.rpki_judge.specs.Climbing.{link_of}
use Rattle.rpki_judge.proofs.Needs.{listed_to, listed_from}
use Rattle.rpki_judge.proofs.ClimbSteps.{no_either, anchor_says}
use Rattle.rpki_judge.proofs.climb.at_anchor.Goals as goal

pub returns-then-not-are_listed-clause-anchor : goal.returns-then-not-are_listed-clause-anchor
returns-then-not-are_listed-clause-anchor g c =
    no_either (λ k. c.are_listed.ensures.1 (listed_from (g.E.Evidence.cert c.args.anchor.now.cert) c.claims.result c.claims.ensures c.args.needed.now k.1)) c.if-not-are_listed.true

pub returns-clause-anchor : goal.returns-clause-anchor
returns-clause-anchor g c =
    anchor_says (g.E.Evidence.world c.args.evidence.now) c.args.locator.now (link_of g.E.Evidence.cert c.args.anchor.now) c.args.needed.now c.is_anchor.result c.is_anchor.ensures.anchor (listed_to (g.E.Evidence.cert c.args.anchor.now.cert) c.claims.result c.claims.ensures c.args.needed.now (c.are_listed.ensures.0 c.if-not-are_listed.false))
