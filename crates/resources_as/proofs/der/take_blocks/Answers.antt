use Rattle.resources_as.proofs.of_bcder_content.Forests.{list_next, list_stop_next}
use Rattle.resources_as.proofs.of_bcder_content.Perhaps.{there_if, absent_if, list_done}
use Rattle.resources_asn.specs.Blocks.{as_run}
use Rattle.resources_as.proofs.der.take_blocks.Goals as goal

pub returns-in_err-block : goal.returns-in_err-block
returns-in_err-block g c = list_stop_next _ _ _ _ c.loop-blocks.invariant c.from_residual.ensures c.in_err-block.ensures.reads

pub loop-blocks-preserved : goal.loop-blocks-preserved
loop-blocks-preserved g c = list_next c.loop-blocks.invariant (there_if as_run _ c.in-Some.is c.in_ok-block.ensures.reads) c.in_ok-push.ensures.ok

pub returns : goal.returns
returns g c = list_done c.loop-blocks.invariant (absent_if as_run _ _ c.in_default.is c.in_ok-block.ensures.reads)
