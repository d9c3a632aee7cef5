use Rattle.std.proofs.Common.{sym, subst, ◌∙◌}
use Rattle.std.specs.Prelude.{IfErr}
use Rattle.resources_as.specs.bcder_primitive.Writing.{CannotWrite}
use Rattle.resources_as.specs.resources_chain.Claims.{Choice}
use Rattle.resources_as.specs.Written.{AreAsResources, WritesAsResources}
use Rattle.resources_as.proofs.write.AsResourcesValues.encoded_len.Goals as goal

pub returns-in-Inherit-clause-refused : goal.returns-in-Inherit-clause-refused
returns-in-Inherit-clause-refused c =
    subst (λ (x : Choice). IfErr c.inherit_len.result (CannotWrite (AreAsResources x) (WritesAsResources c.args.mode x))) (sym c.in-Inherit.is ∙ c.choice.ensures) c.inherit_len.ensures.refused

pub returns-in-Blocks-clause-refused : goal.returns-in-Blocks-clause-refused
returns-in-Blocks-clause-refused c =
    subst (λ (x : Choice). IfErr c.list_len.result (CannotWrite (AreAsResources x) (WritesAsResources c.args.mode x))) (sym c.in-Blocks.is ∙ c.choice.ensures) c.list_len.ensures.refused
