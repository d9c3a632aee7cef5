use Rattle.std.proofs.Common.{IfErr, ◌≡◌, subst}
use Rattle.certs.specs.bcder_tree.declared.mode.Mode.TheVariants.{Der}
use Rattle.certs.specs.bcder_primitive.Writing.{WriteRefused}
use Rattle.certs.specs.Values.{ExtensionText, ExtensionTrees}
use Rattle.certs.proofs.written.extension.ExtensionEncoderValues.write_encoded.Goals as goal

pub returns-clause-refused : goal.returns-clause-refused
returns-clause-refused g c =
    subst (λ e. IfErr c.write_encoded.result (WriteRefused (ExtensionTrees e.kind e.critical (g.V.Values.writes e.value Der) c.args.mode) (ExtensionText e.kind e.critical (g.V.Values.writes e.value Der) c.args.mode) (c.write_encoded.new.target ≡ c.args.target.now) (g.W.Write.contents c.args.target.now) (g.W.Write.contents c.write_encoded.new.target)))
    c.self.view_is c.write_encoded.ensures.refused
