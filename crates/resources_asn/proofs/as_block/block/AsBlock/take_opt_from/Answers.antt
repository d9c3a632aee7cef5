use Rattle.std.proofs.Common.{arith}
use Rattle.resources_asn.proofs.of_bcder_content.Choices.{as_lacks_tagged, universal_apart}
use Rattle.resources_asn.proofs.of_bcder_content.Forests.{absent}
use Rattle.resources_asn.proofs.of_bcder_content.Perhaps.{stop_if, first_refused, second_refused, neither_next}
use Rattle.resources_asn.specs.Meanings.{id_tagged, range_tagged}
use Rattle.resources_asn.specs.Blocks.{as_run}
use Rattle.resources_asn.specs.BlockEncodings.{alone, from_to}
use Rattle.resources_asn.proofs.as_block.block.AsBlock.take_opt_from.Goals as goal

pub returns-in_err-id-clause-reads : goal.returns-in_err-id-clause-reads
returns-in_err-id-clause-reads g c = stop_if as_run _ _ _ c.from_residual.ensures (λ l. first_refused range_tagged (universal_apart (λ e. omega arith)) (as_lacks_tagged alone l)) c.in_err-id.ensures.reads

pub returns-in_err-range-clause-reads : goal.returns-in_err-range-clause-reads
returns-in_err-range-clause-reads g c =
    let none = absent _ _ _ c.in_default.is c.in_ok-id.ensures.reads in
    stop_if as_run _ _ _ c.from_residual-in_err-range.ensures (λ l. second_refused id_tagged none (as_lacks_tagged from_to l)) c.in_err-range.ensures.reads

pub returns-in-None-clause-reads : goal.returns-in-None-clause-reads
returns-in-None-clause-reads g c =
    let none = absent _ _ _ c.in_default.is c.in_ok-id.ensures.reads in
    neither_next id_tagged range_tagged none (absent _ _ _ c.in-None.is c.in_ok-range.ensures.reads)
