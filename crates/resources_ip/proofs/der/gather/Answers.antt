use Rattle.resources_ip.proofs.of_bcder_content.Perhaps.{there_if, absent_if}
use Rattle.resources_ip_block.specs.Block.{run_of_block}
use Rattle.resources_ip.proofs.Gathered.{gathered_next, gathered_stop, gathered_done}
use Rattle.resources_ip.proofs.der.gather.Goals as goal

pub returns-in_err-block : goal.returns-in_err-block
returns-in_err-block g c = gathered_stop _ _ _ _ c.loop-blocks.invariant c.from_residual.ensures c.in_err-block.ensures.reads

pub loop-blocks-preserved : goal.loop-blocks-preserved
loop-blocks-preserved g c = gathered_next c.loop-blocks.invariant (there_if run_of_block _ c.in-Some.is c.in_ok-block.ensures.reads) c.in_ok-push.ensures.ok

pub returns : goal.returns
returns g c = gathered_done c.loop-blocks.invariant (absent_if run_of_block _ _ c.in_default.is c.in_ok-block.ensures.reads)
