use Rattle.std.proofs.Common.{◌≡◌, sym, subst, ◌∙◌}
use Rattle.std.specs.Prelude.{IfErr}
use Rattle.resources_as.specs.bcder_primitive.Writing.{WriteRefused}
use Rattle.resources_as.specs.resources_chain.Claims.{Choice}
use Rattle.resources_as.specs.Written.{AreAsResources, WritesAsResources}
use Rattle.resources_as.proofs.write.AsResourcesValues.write_encoded.Goals as goal

pub returns-in-Inherit-clause-refused : goal.returns-in-Inherit-clause-refused
returns-in-Inherit-clause-refused g c =
    subst (λ (x : Choice). IfErr c.write_inherit.result (WriteRefused (AreAsResources x) (WritesAsResources c.args.mode x) (c.write_inherit.new.target ≡ c.args.target.now) (g.W.Write.contents c.args.target.now) (g.W.Write.contents c.write_inherit.new.target))) (sym c.in-Inherit.is ∙ c.choice.ensures) c.write_inherit.ensures.refused

pub returns-in-Blocks-clause-refused : goal.returns-in-Blocks-clause-refused
returns-in-Blocks-clause-refused g c =
    subst (λ (x : Choice). IfErr c.write_list.result (WriteRefused (AreAsResources x) (WritesAsResources c.args.mode x) (c.write_list.new.target ≡ c.args.target.now) (g.W.Write.contents c.args.target.now) (g.W.Write.contents c.write_list.new.target))) (sym c.in-Blocks.is ∙ c.choice.ensures) c.write_list.ensures.refused
