use Rattle.resources_chain.proofs.RunLemmas.{overlap_told}
use Rattle.resources_chain.proofs.block.Block.intersects.Goals as goal

pub returns-then-not-ends_before : goal.returns-then-not-ends_before
returns-then-not-ends_before g c =
    let mine = g.met.Self.Block.run_within c.args.self.now in
    let others = g.met.Self.Block.run_within c.args.other.now in
    overlap_told (g.Self.Block.run c.args.self.now) (g.Self.Block.run c.args.other.now) c.ends_before-then-not-ends_before.result mine.0 others.0 c.if-not-ends_before.ensures c.ends_before-then-not-ends_before.ensures
