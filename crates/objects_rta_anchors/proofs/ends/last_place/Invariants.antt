use Rattle.std.proofs.Common.{◌≡◌, length}
use Rattle.objects_rta_valid.specs.Places.{last_from}
use Rattle.objects_rta_anchors.proofs.ends.last_place.Given as goal

abbrev pub invariant-loop-place : goal.invariant-loop-place
invariant-loop-place l = last_from l.last l.path ≡ last_from 0 l.fn.path

abbrev pub decreases-loop-place : goal.decreases-loop-place
decreases-loop-place l = length l.path
