use Rattle.std.proofs.Common.{IfOk, IfErr, sym, ◌∙◌}
use Rattle.resources_ip.specs.bcder_primitive.Writing.{HasLength, CannotWrite}
use Rattle.resources_ip.proofs.BothFamilies.{of_fields}
use Rattle.resources_ip.proofs.families.family_len.Goals as goal

pub returns-then-is_said-clause-len : goal.returns-then-is_said-clause-len
returns-then-is_said-clause-len c =
    let e = c.fields-value.ensures in
    of_fields (λ T P. IfOk c.encoded_len.result (HasLength P)) c.args.mode c.args.family c.args.resources.now (sym c.is_said.ensures ∙ c.if-is_said.true) e.sequence e.family e.resources c.encoded_len.ensures.len

pub returns-then-is_said-clause-refused : goal.returns-then-is_said-clause-refused
returns-then-is_said-clause-refused c =
    let e = c.fields-value.ensures in
    of_fields (λ T P. IfErr c.encoded_len.result (CannotWrite T P)) c.args.mode c.args.family c.args.resources.now (sym c.is_said.ensures ∙ c.if-is_said.true) e.sequence e.family e.resources c.encoded_len.ensures.refused
