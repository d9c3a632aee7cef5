use Rattle.std.proofs.Common.{◌≡◌, ◌++◌, length, map}
use Rattle.objects_rta_written.specs.Again.{signer_parts, signers_seen}
use Rattle.objects_rta_written.proofs.Writing.{StandAlike}
use Rattle.objects_rta_written.proofs.object.signers_of.Given as goal

abbrev pub invariant-loop-signer : goal.invariant-loop-signer
invariant-loop-signer l =
    (l.values.items ++ map signer_parts (signers_seen l.rest) ≡ map signer_parts (signers_seen l.signers))
    × StandAlike l.rest l.signers

abbrev pub decreases-loop-signer : goal.decreases-loop-signer
decreases-loop-signer l = length l.rest
