use Rattle.std.proofs.Common.{Bool, IfErr, sym, ◌∙◌, subst}
use Rattle.bcder_octets.specs.bcder_primitive.Writing.{CannotWrite}
use Rattle.bcder_octets.specs.Segments.{FormTrees, FormTexts}
use Rattle.bcder_octets.proofs.encode.string_len.Goals as goal

pub returns-then-is_cut-clause-refused : goal.returns-then-is_cut-clause-refused
returns-then-is_cut-clause-refused c = subst (λ (b : Bool). IfErr c.encoded_len.result (CannotWrite (FormTrees b c.args.tag c.args.octets.now) (FormTexts b c.args.mode c.args.tag c.args.octets.now))) (sym c.if-is_cut.true ∙ c.is_cut.ensures) c.encoded_len.ensures.refused

pub returns-clause-refused : goal.returns-clause-refused
returns-clause-refused c = subst (λ (b : Bool). IfErr c.encoded_len-2.result (CannotWrite (FormTrees b c.args.tag c.args.octets.now) (FormTexts b c.args.mode c.args.tag c.args.octets.now))) (sym c.if-is_cut.false ∙ c.is_cut.ensures) c.encoded_len-2.ensures.refused
