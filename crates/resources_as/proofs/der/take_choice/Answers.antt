use Rattle.resources_as.proofs.of_bcder_content.Choices.{stop_value, second_gives, choice_lacks, second_lacks, as_gives, as_lacks, as_lacks_tagged, universal_apart}
use Rattle.resources_as.proofs.of_bcder_content.Forests.{absent}
use Rattle.resources_as.specs.Meanings.{inherit_tagged, list_tagged}
use Rattle.resources_as.specs.Encodings.{IsAsChoice, inherits, lists}
use Rattle.resources_as.specs.bcder_content.Exact.{Gives}
use Rattle.resources_as.specs.bcder_content.Here.{here}
use Rattle.resources_as.specs.resources_chain.Claims.{Choice}
use Rattle.std.proofs.Common.{subst, sym, arith}
use Rattle.resources_as.proofs.der.take_choice.Goals as goal

pub returns-in_err-inherit : goal.returns-in_err-inherit
returns-in_err-inherit g c = stop_value _ _ _ _ c.from_residual.ensures (λ l. choice_lacks list_tagged (universal_apart (λ e. omega arith)) (as_lacks_tagged inherits l)) c.in_err-inherit.ensures.reads

pub returns-in_err-set : goal.returns-in_err-set
returns-in_err-set g c =
    let none = absent _ _ _ c.in_default.is c.in_ok-inherit.ensures.reads in
    stop_value _ _ _ _ c.from_residual-in_err-set.ensures (λ l. second_lacks inherit_tagged none (as_lacks lists l)) c.in_err-set.ensures.reads

pub returns : goal.returns
returns g c =
    let none = absent _ _ _ c.in_default.is c.in_ok-inherit.ensures.reads in
    let rest = g.S.Source.rest in
    let given = second_gives _ none (as_gives lists c.in_ok-set.ensures.reads) in
    subst (λ (x : Choice). Gives IsAsChoice (here rest c.args.cons.now) x (here rest c.take_from.new.cons)) (sym c.blocks-2.ensures.choice) given
