use Rattle.std.proofs.Common.{◌≡◌, ◌++◌, length, map}
use Rattle.objects_rta.specs.objects_cms.Signer.{SignerValue}
use Rattle.objects_rta_valid.proofs.keys.sids_of.Given as goal

abbrev pub invariant-loop-signer : goal.invariant-loop-signer
invariant-loop-signer l = l.sids.items ++ map (λ (s : SignerValue). s.sid) l.rest ≡ map (λ (s : SignerValue). s.sid) l.fn.signers

abbrev pub decreases-loop-signer : goal.decreases-loop-signer
decreases-loop-signer l = length l.rest
