use Rattle.std.proofs.Common.{◌*◌, ◌+◌, ◌^◌, ◌<◌, rules, arith}
use Rattle.bcder_primitive.proofs.Numbers.{room}
use Rattle.bcder_primitive.proofs.integers.missing.Goals as goal

pub overflow_mul-missing : goal.overflow_mul-missing
overflow_mul-missing c =
    let h : c.loop-octet.missing * 256 + 255 < 2 ^ 128 = room c.loop-octet.octet-index c.loop-octet.missing (omega arith) (omega (arith, c.loop-octet.invariant.1)) in
    search rules

pub overflow_add-missing : goal.overflow_add-missing
overflow_add-missing c =
    let h : c.loop-octet.missing * 256 + 255 < 2 ^ 128 = room c.loop-octet.octet-index c.loop-octet.missing (omega arith) (omega (arith, c.loop-octet.invariant.1)) in
    search rules
