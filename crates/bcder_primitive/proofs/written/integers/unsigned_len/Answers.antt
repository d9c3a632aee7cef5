use Rattle.bcder_primitive.proofs.WrittenNumbers.{unsigned_written, fewest_few}
use Rattle.bcder_primitive.proofs.written.integers.unsigned_len.Goals as goal
use Rattle.std.proofs.Common.{◌^◌, ◌<◌, rules, arith}

pub returns-clause-len : goal.returns-clause-len
returns-clause-len c = λ bound low.
    let within : c.args.number < 2 ^ 128 = search rules in
    unsigned_written bound c.args.number c.fewest.result within low c.fewest.ensures

pub returns-clause-few : goal.returns-clause-few
returns-clause-few c =
    let within : c.args.number < 2 ^ 128 = search rules in
    fewest_few c.args.number c.fewest.result 16 c.fewest.ensures (omega (arith, within))
