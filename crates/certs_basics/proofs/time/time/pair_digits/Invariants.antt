use Rattle.std.proofs.Common.{◌≡◌, ℕ, ◌<◌, length, get_or}
use Rattle.certs_basics.proofs.Moments.{HasDigits}
use Rattle.certs_basics.proofs.time.time.pair_digits.Given as goal

abbrev pub invariant-loop-i : goal.invariant-loop-i
invariant-loop-i l = record {
  count : length l.text ≡ 15;
  last : get_or l.text 14 0 ≡ 90;
  each : (k : ℕ) → k < l.i → HasDigits l.text l.number-items k;
}
