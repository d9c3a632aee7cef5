use Rattle.std.proofs.Common.{sym, subst, ◌∙◌}
use Rattle.std.specs.Prelude.{IfErr}
use Rattle.resources_ip.specs.bcder_primitive.Writing.{CannotWrite}
use Rattle.resources_ip.specs.resources_chain.Claims.{Choice}
use Rattle.resources_ip.specs.Written.{AreIpResources, WritesIpResources}
use Rattle.resources_ip.proofs.write.IpResourcesValues.encoded_len.Goals as goal

pub returns-in-Inherit-clause-refused : goal.returns-in-Inherit-clause-refused
returns-in-Inherit-clause-refused c =
    subst (λ (x : Choice). IfErr c.inherit_len.result (CannotWrite (AreIpResources c.args.mode x) (WritesIpResources c.args.mode x))) (sym c.in-Inherit.is ∙ c.choice.ensures) c.inherit_len.ensures.refused

pub returns-in-Blocks-clause-refused : goal.returns-in-Blocks-clause-refused
returns-in-Blocks-clause-refused c =
    subst (λ (x : Choice). IfErr c.encoded_len.result (CannotWrite (AreIpResources c.args.mode x) (WritesIpResources c.args.mode x))) (sym c.in-Blocks.is ∙ c.choice.ensures) c.encoded_len.ensures.refused
