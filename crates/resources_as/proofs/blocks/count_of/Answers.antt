use Rattle.std.proofs.Common.{arith}
use Rattle.resources_asn.proofs.CountLemmas.{count_bound, count_more}
use Rattle.resources_as.proofs.blocks.count_of.Goals as goal

pub overflow_add-count : goal.overflow_add-count
overflow_add-count c =
    let bound = count_bound c.args.blocks.now c.requires in
    let more = count_more c.loop-block.rest.now c.in-Some.behind.now c.in-Some.block.now _ _ _ c.in-Some.ensures.cases.0 c.asn_count-count.ensures c.loop-block.invariant in
    omega arith

pub loop-block-preserved : goal.loop-block-preserved
loop-block-preserved c =
    count_more c.loop-block.rest.now c.in-Some.behind.now c.in-Some.block.now _ _ _ c.in-Some.ensures.cases.0 c.asn_count-count.ensures c.loop-block.invariant
