use Rattle.std.proofs.Common.{◌↔◌}
use Rattle.std.specs.Prelude.{map}
use Rattle.resources_ip.specs.resources_chain.Sets.{AreMaximal}
use Rattle.resources_ip_block.specs.Block.{run_of_block}
use Rattle.resources_ip.specs.Blocks.{blocks_left}
use Rattle.resources_ip.specs.WholeSets.{AreWhole}
use Rattle.resources_ip.proofs.blocks.IpBlocks.is_whole_v4.Given as goal

abbrev pub invariant-loop-block : goal.invariant-loop-block
invariant-loop-block l = AreMaximal (map run_of_block (blocks_left l.block-iterator)) × (AreWhole l.self ↔ AreWhole (map run_of_block (blocks_left l.block-iterator)))
