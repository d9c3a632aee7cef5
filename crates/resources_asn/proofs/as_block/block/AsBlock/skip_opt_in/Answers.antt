use Rattle.resources_asn.proofs.of_bcder_content.Choices.{as_lacks}
use Rattle.resources_asn.proofs.of_bcder_content.Perhaps.{absent_if, stop_if, as_none_next}
use Rattle.resources_asn.specs.Encodings.{whichever}
use Rattle.resources_asn.specs.Blocks.{as_run}
use Rattle.resources_asn.proofs.as_block.block.AsBlock.skip_opt_in.Goals as goal

pub returns-in_err-block-clause-reads : goal.returns-in_err-block-clause-reads
returns-in_err-block-clause-reads g c = stop_if (λ x. x) _ _ _ c.from_residual.ensures (λ l. (as_lacks whichever l.0, l.1)) c.in_err-block.ensures.reads

pub returns-in-None-clause-reads : goal.returns-in-None-clause-reads
returns-in-None-clause-reads g c = as_none_next whichever _ _ (absent_if as_run _ _ c.in-None.is c.in_ok-block.ensures.reads)
