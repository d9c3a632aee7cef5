use Rattle.std.proofs.Common.{arith, ◌∙◌}
use Rattle.resources_ip_block.specs.resources_chain.Same.{run_is}
use Rattle.resources_ip_block.specs.BlockEncodings.{bounds_ends}
use Rattle.resources_ip_block.specs.Range.{run_of_range}
use Rattle.resources_ip_block.proofs.Blocks.{range_stop, range_given, range_unfit}
use Rattle.resources_ip_block.proofs.der.range_in.Goals as goal

pub returns-in_err-bounds-clause-reads : goal.returns-in_err-bounds-clause-reads
returns-in_err-bounds-clause-reads g c = range_stop run_of_range _ c.args.family _ _ _ _ c.from_residual.ensures c.in_err-bounds.ensures.reads

pub returns-then-to_bits-clause-reads : goal.returns-then-to_bits-clause-reads
returns-then-to_bits-clause-reads g c = range_unfit _ c.args.family (bounds_ends c.in_ok-bounds.bounds) c.content_err.result c.in_ok-bounds.ensures.reads (omega (arith, c.if-to_bits.true, c.to_bits.ensures, c.to_bits-2.ensures, c.min-min.ensures, c.max-max.ensures))

pub returns-clause-reads : goal.returns-clause-reads
returns-clause-reads g c = range_given _ c.args.family (bounds_ends c.in_ok-bounds.bounds) c.in_ok-bounds.ensures.reads (c.new.ensures ∙ run_is c.min-min.ensures c.max-max.ensures) c.new.result.ordered
