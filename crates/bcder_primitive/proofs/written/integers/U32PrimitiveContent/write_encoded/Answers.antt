use Rattle.bcder_primitive.proofs.written.integers.U32PrimitiveContent.write_encoded.Goals as goal
use Rattle.std.proofs.Common.{◌^◌, ◌<◌, rules}

pub returns-clause-refused : goal.returns-clause-refused
returns-clause-refused g c =
    let low : c.args.self.now < 2 ^ 32 = search rules in
    rw c.from.ensures at (c.put_unsigned.ensures.refused (2 ^ 32) c.args._mode) low
