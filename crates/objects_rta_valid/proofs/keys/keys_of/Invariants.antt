use Rattle.std.proofs.Common.{◌≡◌, ◌++◌, length, map}
use Rattle.objects_rta_valid.specs.Certs.{node_of}
use Rattle.objects_rta_valid.proofs.keys.keys_of.Given as goal

abbrev pub invariant-loop-cert : goal.invariant-loop-cert
invariant-loop-cert l = l.keys.items ++ map node_of l.rest ≡ map node_of l.fn.certs

abbrev pub decreases-loop-cert : goal.decreases-loop-cert
decreases-loop-cert l = length l.rest
