use Rattle.std.proofs.Common.{◌≡◌, ◌<◌, ℕ, true}
use Rattle.objects_rta_valid.specs.Runs.{known_at}
use Rattle.objects_rta_valid.proofs.paths.places.Paths.first_off.Given as goal

abbrev pub invariant-loop-place : goal.invariant-loop-place
invariant-loop-place l = (k : ℕ) → k < l.place → known_at l.length-items k ≡ true
