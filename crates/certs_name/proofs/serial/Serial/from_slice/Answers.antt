use Rattle.std.proofs.Common.{arith}
use Rattle.certs_name.proofs.Numbers.{no_smaller_next}
use Rattle.certs_name.proofs.serial.Serial.from_slice.Goals as goal

pub returns-in_default-clause-refused : goal.returns-in_default-clause-refused
returns-in_default-clause-refused c =
    omega (arith, no_smaller_next c.loop-octet.octet-index c.loop-octet.serial c.args.octets.now c.loop-octet-test.true, c.loop-octet.invariant, c.in_default.ensures.none)
