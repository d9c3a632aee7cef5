use Rattle.std.proofs.Common.{◌≡◌, ◌++◌, length, map}
use Rattle.objects_rta_valid.specs.Vouched.{authority_of}
use Rattle.objects_rta_valid.proofs.keys.authorities_of.Given as goal

abbrev pub invariant-loop-crl : goal.invariant-loop-crl
invariant-loop-crl l = l.authorities.items ++ map authority_of l.rest ≡ map authority_of l.fn.crls

abbrev pub decreases-loop-crl : goal.decreases-loop-crl
decreases-loop-crl l = length l.rest
