use Rattle.std.proofs.Common.{◌≡◌, ℕ, ◌<◌, length}
use Rattle.certs_basics.proofs.Moments.{IsPairAt}
use Rattle.certs_basics.proofs.time.time.pairs.Given as goal

abbrev pub invariant-loop-i : goal.invariant-loop-i
invariant-loop-i l = record {
  count : length l.number-items ≡ 7;
  each : (k : ℕ) → k < l.i → IsPairAt l.text l.number-items k;
}
