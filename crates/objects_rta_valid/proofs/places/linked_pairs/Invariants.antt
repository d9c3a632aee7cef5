use Rattle.objects_rta_valid.specs.Places.{ArePairsTo}
use Rattle.objects_rta_valid.proofs.places.linked_pairs.Given as goal

abbrev pub invariant-loop-place : goal.invariant-loop-place
invariant-loop-place l = ArePairsTo l.links l.place l.pairs.items
