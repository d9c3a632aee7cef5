use Rattle.resources_ip.proofs.WideSets.{run_along}
use Rattle.resources_ip.proofs.blocks.IpBlocks.contains_addr_prefix.Goals as goal

pub returns : goal.returns
returns c = run_along c.contains_block.result c.args.self.now c.from_addr_prefix.ensures.run c.contains_block.ensures
