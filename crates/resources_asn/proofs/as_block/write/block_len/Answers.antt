use Rattle.std.proofs.Common.{◌≡◌, Bool, true, false, subst, sym, rules}
use Rattle.std.specs.Prelude.{◌==◌, IfErr}
use Rattle.resources_asn.specs.bcder_primitive.Writing.{CannotWrite}
use Rattle.resources_asn.specs.Written.{AreIdOrRange, WritesIdOrRange}
use Rattle.resources_asn.proofs.as_block.write.block_len.Goals as goal

pub returns-then-into_u32-clause-refused : goal.returns-then-into_u32-clause-refused
returns-then-into_u32-clause-refused c =
    let one : (c.args.min.value == c.args.max.value) ≡ true = search rules in
    subst (λ (z : Bool). IfErr c.id_len.result (CannotWrite (AreIdOrRange z (record { first = c.args.min.value; last = c.args.max.value })) (WritesIdOrRange z c.args.mode (record { first = c.args.min.value; last = c.args.max.value })))) (sym one) c.id_len.ensures.refused

pub returns-else-into_u32-clause-refused : goal.returns-else-into_u32-clause-refused
returns-else-into_u32-clause-refused c =
    let more : (c.args.min.value == c.args.max.value) ≡ false = search rules in
    subst (λ (z : Bool). IfErr c.range_len.result (CannotWrite (AreIdOrRange z (record { first = c.args.min.value; last = c.args.max.value })) (WritesIdOrRange z c.args.mode (record { first = c.args.min.value; last = c.args.max.value })))) (sym more) c.range_len.ensures.refused
