use Rattle.std.proofs.Common.{map, ap}
use Rattle.resources_chain.proofs.WalkLemmas.{no_runs, same_at, reaches_at, block_at_first, block_at_none}
use Rattle.resources_chain.proofs.walk.has_block.Goals as goal

pub returns-in-Some : goal.returns-in-Some
returns-in-Some g c =
    let others = ap (map g.B.Block.run) c.in-Some.ensures.cases.0 in
    block_at_first (g.B.Block.run c.args.block.now) (same_at c.from_item.ensures.same others) (reaches_at (g.B.Block.place c.min.result) c.from_item.ensures.reaches others) c.min.ensures (g.met.B.Block.run_within c.args.block.now).0 c.is_encompassed.ensures

pub returns-in-None : goal.returns-in-None
returns-in-None g c =
    block_at_none (g.B.Block.run c.args.block.now) c.from_item.ensures.same (no_runs g.B.Block.run c.from_item.result.now c.in-None.ensures.cases) c.min.ensures (g.met.B.Block.run_within c.args.block.now).0
