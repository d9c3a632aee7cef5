use Rattle.std.proofs.Common.{◌≡◌, ◌^◌, take}
use Rattle.std.specs.Prelude.{min}
use Rattle.bcder.specs.Subidentifiers.{base128}
use Rattle.bcder.proofs.oid.component.capped_number.Given as goal

abbrev pub invariant-loop-octet : goal.invariant-loop-octet
invariant-loop-octet l = l.number ≡ min (base128 (take l.octet-index l.octets)) (2 ^ 33)
