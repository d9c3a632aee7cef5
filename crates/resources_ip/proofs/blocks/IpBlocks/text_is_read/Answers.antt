use Rattle.resources_ip.proofs.Texts.{set_read}
use Rattle.resources_ip.proofs.blocks.IpBlocks.text_is_read.Goals as goal

pub returns : goal.returns
returns c = set_read c.as_blocks.result.now c.args.self.now c.as_blocks.ensures
