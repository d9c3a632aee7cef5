use Rattle.std.proofs.Common.{◌≡◌, OnOk, IfErr, sym, ◌∙◌}
use Rattle.resources_ip.specs.bcder_primitive.Writing.{Wrote, WriteRefused}
use Rattle.resources_ip.proofs.BothFamilies.{of_fields}
use Rattle.resources_ip.proofs.families.write_family.Goals as goal

pub returns-then-is_said-clause-written : goal.returns-then-is_said-clause-written
returns-then-is_said-clause-written g c =
    let e = c.fields-value.ensures in
    let contents = g.W.Write.contents in
    of_fields (λ T P. OnOk c.write_encoded.result (Wrote P (contents c.args.target.now) (contents c.write_encoded.new.target))) c.args.mode c.args.family c.args.resources.now (sym c.is_said.ensures ∙ c.if-is_said.true) e.sequence e.family e.resources c.write_encoded.ensures.written

pub returns-then-is_said-clause-refused : goal.returns-then-is_said-clause-refused
returns-then-is_said-clause-refused g c =
    let e = c.fields-value.ensures in
    let contents = g.W.Write.contents in
    of_fields (λ T P. IfErr c.write_encoded.result (WriteRefused T P (c.write_encoded.new.target ≡ c.args.target.now) (contents c.args.target.now) (contents c.write_encoded.new.target))) c.args.mode c.args.family c.args.resources.now (sym c.is_said.ensures ∙ c.if-is_said.true) e.sequence e.family e.resources c.write_encoded.ensures.refused
