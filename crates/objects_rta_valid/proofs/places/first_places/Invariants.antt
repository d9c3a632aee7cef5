use Rattle.std.proofs.Common.{◌≡◌, ◌++◌, drop}
use Rattle.std.specs.List.{flat_map}
use Rattle.objects_rta_valid.specs.Places.{first_of}
use Rattle.objects_rta_valid.proofs.places.first_places.Given as goal

abbrev pub invariant-loop-signer : goal.invariant-loop-signer
invariant-loop-signer l = l.firsts.items ++ flat_map first_of (drop l.signer l.paths.paths) ≡ flat_map first_of l.paths.paths
