use Rattle.std.proofs.Common.{map, ap}
use Rattle.resources_chain.proofs.WalkLemmas.{joins_at, joins_step}
use Rattle.resources_chain.proofs.walk.add_all.Goals as goal

pub loop-first-preserved : goal.loop-first-preserved
loop-first-preserved g c =
    joins_step (joins_at c.loop-first.invariant (ap (map g.B.Block.run) c.in-Some.ensures.cases.0)) c.in_ok-add.ensures
