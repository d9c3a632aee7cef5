use Rattle.std.proofs.Common.{◌≡◌, ◌++◌, length}
use Rattle.objects_rta_valid.specs.Vouched.{upper_keys}
use Rattle.objects_rta_valid.proofs.keys.uppers_of.Given as goal

abbrev pub invariant-loop-pair : goal.invariant-loop-pair
invariant-loop-pair l = l.keys.items ++ upper_keys l.fn.certs l.rest ≡ upper_keys l.fn.certs l.fn.pairs

abbrev pub decreases-loop-pair : goal.decreases-loop-pair
decreases-loop-pair l = length l.rest
