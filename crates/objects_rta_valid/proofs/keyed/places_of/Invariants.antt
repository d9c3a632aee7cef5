use Rattle.objects_rta_valid.specs.Nodes.{each_octets}
use Rattle.objects_rta_valid.specs.Keyed.{IsKeyedTo}
use Rattle.objects_rta_valid.proofs.keyed.places_of.Given as goal

abbrev pub invariant-loop-place : goal.invariant-loop-place
invariant-loop-place l = IsKeyedTo (each_octets l.keys) l.place l.places
