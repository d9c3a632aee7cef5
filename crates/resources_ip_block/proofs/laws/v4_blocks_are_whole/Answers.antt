use Rattle.resources_ip_block.proofs.WholeBlocks.{v4_block}
use Rattle.resources_ip_block.proofs.laws.v4_blocks_are_whole.Goals as goal

pub returns : goal.returns
returns c = λ m t run p. v4_block m t run p
