use Rattle.std.proofs.Common.{◌≡◌, ◌++◌, length, map}
use Rattle.resources_ip.specs.resources_ip_block.Block.{run_of_block}
use Rattle.resources_ip.specs.Blocks.{blocks_left}
use Rattle.objects_rta_anchors.proofs.held.add_ip.Given as goal

abbrev pub invariant-loop-block : goal.invariant-loop-block
invariant-loop-block l = l.all ++ map run_of_block (blocks_left l.blocks) ≡ l.fn.all ++ l.held

abbrev pub decreases-loop-block : goal.decreases-loop-block
decreases-loop-block l = length (blocks_left l.blocks)
