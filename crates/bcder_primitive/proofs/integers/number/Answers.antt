use Rattle.std.proofs.Common.{◌*◌, ◌+◌, ◌^◌, ◌<◌, rules, arith}
use Rattle.bcder_primitive.proofs.Numbers.{room}
use Rattle.bcder_primitive.proofs.integers.number.Goals as goal

pub overflow_mul-number : goal.overflow_mul-number
overflow_mul-number c =
    let h : c.loop-octet.number * 256 + 255 < 2 ^ 128 = room c.loop-octet.octet-index c.loop-octet.number (omega arith) c.loop-octet.invariant.small in
    search rules

pub overflow_add-number : goal.overflow_add-number
overflow_add-number c =
    let h : c.loop-octet.number * 256 + 255 < 2 ^ 128 = room c.loop-octet.octet-index c.loop-octet.number (omega arith) c.loop-octet.invariant.small in
    search rules
