use Rattle.resources_as.proofs.Texts.{set_read}
use Rattle.resources_as.proofs.blocks.AsBlocks.text_is_read.Goals as goal

pub returns : goal.returns
returns c = set_read c.as_blocks.result.now c.args.self.now c.as_blocks.ensures c.runs_are_maximal.ensures
