use Rattle.std.proofs.Common.{IfOk, IfErr, sym, ◌∙◌}
use Rattle.resources_ip.specs.bcder_primitive.Writing.{HasLength, CannotWrite}
use Rattle.resources_ip.proofs.BothFamilies.{of_parts}
use Rattle.resources_ip.proofs.families.families_len.Goals as goal

pub returns-then-is_any_said-clause-len : goal.returns-then-is_any_said-clause-len
returns-then-is_any_said-clause-len c =
    let e = c.list-value.ensures in
    of_parts (λ T P. IfOk c.encoded_len.result (HasLength P)) c.args.mode c.args.v4.now c.args.v6.now (sym c.is_any_said.ensures ∙ c.if-is_any_said.true) e.sequence e.v4 e.v6 c.encoded_len.ensures.len

pub returns-then-is_any_said-clause-refused : goal.returns-then-is_any_said-clause-refused
returns-then-is_any_said-clause-refused c =
    let e = c.list-value.ensures in
    of_parts (λ T P. IfErr c.encoded_len.result (CannotWrite T P)) c.args.mode c.args.v4.now c.args.v6.now (sym c.is_any_said.ensures ∙ c.if-is_any_said.true) e.sequence e.v4 e.v6 c.encoded_len.ensures.refused
