use Rattle.rpki_judge.proofs.ClimbSteps.{refused, raised_some}
use Rattle.rpki_judge.proofs.climb.raised.Goals as goal

pub returns-then-not-branch-clause-raised : goal.returns-then-not-branch-clause-raised
returns-then-not-branch-clause-raised g c = refused c.in_ok-is_below.ensures.below.1 c.if-not-branch.true

pub returns-clause-raised : goal.returns-clause-raised
returns-clause-raised g c =
    raised_some (g.E.Evidence.world c.args.evidence.now) (g.E.Evidence.cert c.args.upper.now) (g.E.Evidence.cert c.args.lower.now.cert) c.args.lower.now.uri.now (g.E.Evidence.point c.args.point.now) (g.E.Evidence.cert c.manifest_cert.result.now) c.claims.result c.claims-manifest.result c.args.needed.now c.in_ok-higher.higher
    (c.in_ok-is_below.ensures.below.0 c.if-not-branch.false) c.claims.ensures c.claims-manifest.ensures c.manifest_cert.ensures c.in_ok-higher.ensures
