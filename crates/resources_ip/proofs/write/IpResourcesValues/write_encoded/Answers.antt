use Rattle.std.proofs.Common.{◌≡◌, sym, subst, ◌∙◌}
use Rattle.std.specs.Prelude.{IfErr}
use Rattle.resources_ip.specs.bcder_primitive.Writing.{WriteRefused}
use Rattle.resources_ip.specs.resources_chain.Claims.{Choice}
use Rattle.resources_ip.specs.Written.{AreIpResources, WritesIpResources}
use Rattle.resources_ip.proofs.write.IpResourcesValues.write_encoded.Goals as goal

pub returns-in-Inherit-clause-refused : goal.returns-in-Inherit-clause-refused
returns-in-Inherit-clause-refused g c =
    subst (λ (x : Choice). IfErr c.write_inherit.result (WriteRefused (AreIpResources c.args.mode x) (WritesIpResources c.args.mode x) (c.write_inherit.new.target ≡ c.args.target.now) (g.W.Write.contents c.args.target.now) (g.W.Write.contents c.write_inherit.new.target))) (sym c.in-Inherit.is ∙ c.choice.ensures) c.write_inherit.ensures.refused

pub returns-in-Blocks-clause-refused : goal.returns-in-Blocks-clause-refused
returns-in-Blocks-clause-refused g c =
    subst (λ (x : Choice). IfErr c.write_encoded.result (WriteRefused (AreIpResources c.args.mode x) (WritesIpResources c.args.mode x) (c.write_encoded.new.target ≡ c.args.target.now) (g.W.Write.contents c.args.target.now) (g.W.Write.contents c.write_encoded.new.target))) (sym c.in-Blocks.is ∙ c.choice.ensures) c.write_encoded.ensures.refused
