use Rattle.std.proofs.Common.{◌≡◌, drop}
use Rattle.certs_name.specs.bcder_tree.Integers.{number_behind, number_of}
use Rattle.certs_name.proofs.serial.Serial.from_slice.Given as goal

-- What is left, read after the number so far, completes it.
abbrev pub invariant-loop-octet : goal.invariant-loop-octet
invariant-loop-octet l = number_of l.octets ≡ number_behind l.serial (drop l.octet-index l.octets)
