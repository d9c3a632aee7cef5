use Rattle.resources_as.proofs.Reading.{blocks_stop, blocks_given}
use Rattle.resources_as.proofs.der.blocks_in.Goals as goal

pub returns-in_err-blocks : goal.returns-in_err-blocks
returns-in_err-blocks g c = blocks_stop _ _ _ _ _ c.from_residual.ensures c.in_err-blocks.ensures

pub returns : goal.returns
returns g c = blocks_given c.in_ok-blocks.blocks c.in_ok-blocks.ensures c.in_ok-set.ensures
