use Rattle.std.proofs.Common.{◌≡◌, ◌++◌, length, map}
use Rattle.objects_rta_valid.specs.Vouched.{subject_of}
use Rattle.objects_rta_valid.proofs.keys.subjects_of.Given as goal

abbrev pub invariant-loop-cert : goal.invariant-loop-cert
invariant-loop-cert l = l.subjects.items ++ map subject_of l.rest ≡ map subject_of l.fn.certs

abbrev pub decreases-loop-cert : goal.decreases-loop-cert
decreases-loop-cert l = length l.rest
