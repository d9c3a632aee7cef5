use Rattle.std.proofs.Common.{ap, arith, inr, subst}
use Rattle.resources_ip.specs.bcder_tree.declared.mode.Mode.{Mode}
use Rattle.resources_ip.specs.bcder_content.Contents.{ValuesLeft}
use Rattle.resources_ip.specs.bcder_content.Exact.{Gives}
use Rattle.resources_ip.specs.bcder_content.Here.{here}
use Rattle.resources_ip.proofs.of_bcder_content.Choices.{stop_value, as_lacks, choice_lacks, second_lacks, as_lacks_tagged, universal_apart}
use Rattle.resources_ip.proofs.of_bcder_content.Forests.{absent}
use Rattle.resources_ip.proofs.of_bcder_content.Modes.{lacks_in}
use Rattle.resources_ip.specs.Encodings.{IsBlockList, inherits, lists}
use Rattle.resources_ip.specs.Meanings.{inherit_tagged, list_tagged}
use Rattle.resources_ip.proofs.resources.IpResources.take_from.Goals as goal

pub returns-in_err-inherit-clause-reads : goal.returns-in_err-inherit-clause-reads
returns-in_err-inherit-clause-reads g c = stop_value _ _ _ _ c.from_residual.ensures (λ l. choice_lacks list_tagged (universal_apart (λ e. omega arith)) (as_lacks_tagged inherits l)) c.in_err-inherit.ensures.reads

pub returns-in_err-blocks-clause-reads : goal.returns-in_err-blocks-clause-reads
returns-in_err-blocks-clause-reads g c =
    let none = absent _ _ _ c.in_default.is c.in_ok-inherit.ensures.reads in
    stop_value _ _ _ _ c.from_residual-in_err-blocks.ensures (λ l. second_lacks inherit_tagged none (as_lacks lists (lacks_in (λ (m : Mode). IsBlockList m c.args.family) (ap (λ (v : ValuesLeft). v.mode) none.0) l))) c.in_err-blocks.ensures.reads

pub returns-clause-reads : goal.returns-clause-reads
returns-clause-reads g c =
    let none = absent _ _ _ c.in_default.is c.in_ok-inherit.ensures.reads in
    let given = subst (λ (v : ValuesLeft). Gives (IsBlockList v.mode c.args.family) v c.in_ok-blocks.blocks (here g.S.Source.rest c.take_from.new.cons)) none.0 c.in_ok-blocks.ensures.reads in
    record { tree = given.tree; is = record { cases = inr (record { x = c.in_ok-blocks.blocks; is = given.is; means = c.blocks-2.ensures.choice }) }; took = given.took }
