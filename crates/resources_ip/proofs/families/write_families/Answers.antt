use Rattle.std.proofs.Common.{◌≡◌, OnOk, IfErr, sym, ◌∙◌}
use Rattle.resources_ip.specs.bcder_primitive.Writing.{Wrote, WriteRefused}
use Rattle.resources_ip.proofs.BothFamilies.{of_parts}
use Rattle.resources_ip.proofs.families.write_families.Goals as goal

pub returns-then-is_any_said-clause-written : goal.returns-then-is_any_said-clause-written
returns-then-is_any_said-clause-written g c =
    let e = c.list-value.ensures in
    let contents = g.W.Write.contents in
    of_parts (λ T P. OnOk c.write_encoded.result (Wrote P (contents c.args.target.now) (contents c.write_encoded.new.target))) c.args.mode c.args.v4.now c.args.v6.now (sym c.is_any_said.ensures ∙ c.if-is_any_said.true) e.sequence e.v4 e.v6 c.write_encoded.ensures.written

pub returns-then-is_any_said-clause-refused : goal.returns-then-is_any_said-clause-refused
returns-then-is_any_said-clause-refused g c =
    let e = c.list-value.ensures in
    let contents = g.W.Write.contents in
    of_parts (λ T P. IfErr c.write_encoded.result (WriteRefused T P (c.write_encoded.new.target ≡ c.args.target.now) (contents c.args.target.now) (contents c.write_encoded.new.target))) c.args.mode c.args.v4.now c.args.v6.now (sym c.is_any_said.ensures ∙ c.if-is_any_said.true) e.sequence e.v4 e.v6 c.write_encoded.ensures.refused
