use Rattle.std.proofs.Common.{◌≡◌, ◌<◌, ℕ, true, false, cond, All, length, sum_by}
use Rattle.objects_rta_valid.specs.Runs.{AreApart, AreUnderway, is_known, known_at}
use Rattle.objects_rta_valid.specs.OnPaths.{has}
use Rattle.objects_rta_valid.proofs.Fresh.{Leads}
use Rattle.objects_rta_valid.proofs.paths.lengths.follow.Given as goal

abbrev pub invariant-loop-lengths : goal.invariant-loop-lengths
invariant-loop-lengths l = record {
  inside : l.place < length l.lengths;
  below : l.place < length l.steps;
  leads : Leads l.steps l.first l.places.items l.place;
  apart : AreApart l.places.items;
  new : (p : ℕ) → has l.places.items p ≡ true → known_at l.fn.lengths p ≡ false;
  underway : AreUnderway l.fn.lengths l.lengths l.places.items;
  all : All (λ place. place < length l.steps) l.places.items;
}

abbrev pub decreases-loop-lengths : goal.decreases-loop-lengths
decreases-loop-lengths l = sum_by (λ x. cond (is_known x) 0 1) l.lengths
