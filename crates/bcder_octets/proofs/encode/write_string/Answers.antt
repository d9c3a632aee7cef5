use Rattle.std.proofs.Common.{◌≡◌, Bool, IfErr, sym, ◌∙◌, subst}
use Rattle.bcder_octets.specs.bcder_primitive.Writing.{WriteRefused}
use Rattle.bcder_octets.specs.Segments.{FormTrees, FormTexts}
use Rattle.bcder_octets.proofs.encode.write_string.Goals as goal

pub returns-then-is_cut-clause-refused : goal.returns-then-is_cut-clause-refused
returns-then-is_cut-clause-refused g c = subst (λ (b : Bool). IfErr c.write_encoded.result (WriteRefused (FormTrees b c.args.tag c.args.octets.now) (FormTexts b c.args.mode c.args.tag c.args.octets.now) (c.write_encoded.new.target ≡ c.args.target.now) (g.W.Write.contents c.args.target.now) (g.W.Write.contents c.write_encoded.new.target))) (sym c.if-is_cut.true ∙ c.is_cut.ensures) c.write_encoded.ensures.refused

pub returns-clause-refused : goal.returns-clause-refused
returns-clause-refused g c = subst (λ (b : Bool). IfErr c.write_encoded-2.result (WriteRefused (FormTrees b c.args.tag c.args.octets.now) (FormTexts b c.args.mode c.args.tag c.args.octets.now) (c.write_encoded-2.new.target ≡ c.args.target.now) (g.W.Write.contents c.args.target.now) (g.W.Write.contents c.write_encoded-2.new.target))) (sym c.if-is_cut.false ∙ c.is_cut.ensures) c.write_encoded-2.ensures.refused
