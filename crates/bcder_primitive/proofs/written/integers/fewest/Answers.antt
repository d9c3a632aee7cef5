use Rattle.bcder_primitive.proofs.WrittenNumbers.{fewest_counted}
use Rattle.bcder_primitive.proofs.written.integers.fewest.Goals as goal
use Rattle.std.proofs.Common.{◌^◌, ◌<◌, rules}

pub returns : goal.returns
returns c =
    let low : c.args.steps < 2 ^ 128 = search rules in
    fewest_counted c.args.steps low
