use Rattle.std.proofs.Common.{ap, arith}
use Rattle.resources_ip_block.specs.bcder_tree.declared.mode.Mode.{Mode}
use Rattle.resources_ip_block.specs.bcder_content.Contents.{ValuesLeft}
use Rattle.resources_ip_block.proofs.of_bcder_content.Choices.{as_lacks_tagged, universal_apart}
use Rattle.resources_ip_block.proofs.of_bcder_content.Forests.{absent}
use Rattle.resources_ip_block.proofs.of_bcder_content.Modes.{lacks_tagged_in}
use Rattle.resources_ip_block.proofs.of_bcder_content.Perhaps.{stop_if, first_refused, second_refused, neither_next}
use Rattle.resources_ip_block.specs.Block.{run_of_block}
use Rattle.resources_ip_block.specs.BlockEncodings.{IsRange, beginning}
use Rattle.resources_ip_block.specs.Meanings.{prefix_tagged, range_tagged}
use Rattle.resources_ip_block.proofs.block.IpBlock.take_opt_from.Goals as goal

pub returns-in_err-prefix-clause-reads : goal.returns-in_err-prefix-clause-reads
returns-in_err-prefix-clause-reads g c = stop_if run_of_block _ _ _ c.from_residual.ensures (λ l. first_refused range_tagged (universal_apart (λ e. omega arith)) (as_lacks_tagged beginning l)) c.in_err-prefix.ensures.reads

pub returns-in_err-range-clause-reads : goal.returns-in_err-range-clause-reads
returns-in_err-range-clause-reads g c =
    let none = absent _ _ _ c.in_default.is c.in_ok-prefix.ensures.reads in
    stop_if run_of_block _ _ _ c.from_residual-in_err-range.ensures (λ l. second_refused (prefix_tagged c.args.family) none (lacks_tagged_in (λ (m : Mode). IsRange m c.args.family) (ap (λ (v : ValuesLeft). v.mode) none.0) l)) c.in_err-range.ensures.reads

pub returns-in-None-clause-reads : goal.returns-in-None-clause-reads
returns-in-None-clause-reads g c =
    let none = absent _ _ _ c.in_default.is c.in_ok-prefix.ensures.reads in
    neither_next (prefix_tagged c.args.family) range_tagged none (absent _ _ _ c.in-None.is c.in_ok-range.ensures.reads)
