use Rattle.std.proofs.Common.{◌≡◌, ◌+◌, ◌*◌, ◌%◌, take, get_or, arith}
use Rattle.bcder.specs.Subidentifiers.{base128}
use Rattle.bcder.proofs.Numbers.{base128_more}
use Rattle.bcder.proofs.oid.component.capped_number.Goals as goal

pub loop-octet-preserved : goal.loop-octet-preserved
loop-octet-preserved c =
    let e : base128 (take (c.loop-octet.octet-index + 1) c.args.octets.now) ≡ base128 (take c.loop-octet.octet-index c.args.octets.now) * 128 + get_or c.args.octets.now c.loop-octet.octet-index 0 % 128 = base128_more c.args.octets.now c.loop-octet.octet-index (omega arith) in
    omega (arith, e)
