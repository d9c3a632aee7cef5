use Rattle.std.proofs.Common.{IfErr, subst}
use Rattle.certs.specs.bcder_tree.declared.mode.Mode.TheVariants.{Der}
use Rattle.certs.specs.bcder_primitive.Writing.{CannotWrite}
use Rattle.certs.specs.Values.{ExtensionText, ExtensionTrees}
use Rattle.certs.proofs.written.extension.ExtensionEncoderValues.encoded_len.Goals as goal

pub returns-clause-refused : goal.returns-clause-refused
returns-clause-refused g c =
    subst (λ e. IfErr c.encoded_len.result (CannotWrite (ExtensionTrees e.kind e.critical (g.V.Values.writes e.value Der) c.args.mode) (ExtensionText e.kind e.critical (g.V.Values.writes e.value Der) c.args.mode)))
    c.self.view_is c.encoded_len.ensures.refused
