use Rattle.std.proofs.Common.{◌≡◌, Bool, true, false, subst, sym, rules}
use Rattle.std.specs.Prelude.{◌==◌, IfErr}
use Rattle.resources_asn.specs.bcder_primitive.Writing.{WriteRefused}
use Rattle.resources_asn.specs.Written.{AreIdOrRange, WritesIdOrRange}
use Rattle.resources_asn.proofs.as_block.write.write_block.Goals as goal

pub returns-then-into_u32-clause-refused : goal.returns-then-into_u32-clause-refused
returns-then-into_u32-clause-refused g c =
    let one : (c.args.min.value == c.args.max.value) ≡ true = search rules in
    let contents = g.W.Write.contents in
    subst (λ (z : Bool). IfErr c.write_id.result (WriteRefused (AreIdOrRange z (record { first = c.args.min.value; last = c.args.max.value })) (WritesIdOrRange z c.args.mode (record { first = c.args.min.value; last = c.args.max.value })) (c.write_id.new.target ≡ c.args.target.now) (contents c.args.target.now) (contents c.write_id.new.target))) (sym one) c.write_id.ensures.refused

pub returns-else-into_u32-clause-refused : goal.returns-else-into_u32-clause-refused
returns-else-into_u32-clause-refused g c =
    let more : (c.args.min.value == c.args.max.value) ≡ false = search rules in
    let contents = g.W.Write.contents in
    subst (λ (z : Bool). IfErr c.write_range.result (WriteRefused (AreIdOrRange z (record { first = c.args.min.value; last = c.args.max.value })) (WritesIdOrRange z c.args.mode (record { first = c.args.min.value; last = c.args.max.value })) (c.write_range.new.target ≡ c.args.target.now) (contents c.args.target.now) (contents c.write_range.new.target))) (sym more) c.write_range.ensures.refused
