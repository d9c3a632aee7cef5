use Rattle.std.proofs.Common.{◌≡◌, length}
use Rattle.objects_rta_valid.specs.Places.{BeginBelow, linked, pairs_from, pairs_of}
use Rattle.objects_rta_valid.proofs.places.link_path.Given as goal

abbrev pub invariant-loop-place : goal.invariant-loop-place
invariant-loop-place l = record {
  table : linked l.links.items (pairs_from l.last l.path) ≡ linked l.fn.links.items (pairs_of l.fn.path);
  inside : BeginBelow (length l.links.items) (pairs_from l.last l.path);
}

abbrev pub decreases-loop-place : goal.decreases-loop-place
decreases-loop-place l = length l.path
