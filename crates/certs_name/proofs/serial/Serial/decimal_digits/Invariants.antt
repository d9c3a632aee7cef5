use Rattle.std.proofs.Common.{◌≡◌, ◌<◌, ◌≤◌, ◌^◌, ◌⊎◌, ◌++◌, drop, length}
use Rattle.std.specs.Fmt.{decimal}
use Rattle.certs_name.proofs.serial.Serial.decimal_digits.Given as goal

-- The digits so far stand after those of the number that is left, for which there is place.
abbrev pub invariant-loop-front : goal.invariant-loop-front
invariant-loop-front l = record {
  count : length l.digits ≡ 49;
  text : decimal l.fn.self ≡ decimal l.rest ++ drop l.begin l.digits;
  place : (l.begin ≡ 49) ⊎ (l.rest < 10 ^ l.begin);
  some : 1 ≤ l.begin;
  bound : l.begin ≤ 49;
  below : (l.rest ≡ l.fn.self) ⊎ (l.fn.self < 2 ^ 160);
}

abbrev pub decreases-loop-front : goal.decreases-loop-front
decreases-loop-front l = l.begin
