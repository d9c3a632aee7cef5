use Rattle.std.proofs.Common.{length}
use Rattle.objects_cms.specs.bcder_content.Here.{here}
use Rattle.objects_cms.proofs.of_bcder_content.InMode.{Items}
use Rattle.objects_rta.specs.Attestations.{AreSubjectKeys, IsSubjectKey}
use Rattle.objects_rta.proofs.attestation.keys.take_keys.Given as goal

abbrev pub invariant-loop-keys : goal.invariant-loop-keys
invariant-loop-keys g l = Items AreSubjectKeys IsSubjectKey (λ xs. xs) l.keys.items (here g.S.Source.rest l.fn.cons) (here g.S.Source.rest l.cons)

abbrev pub decreases-loop-keys : goal.decreases-loop-keys
decreases-loop-keys g l = length (g.S.Source.rest l.cons.octets.source.source)
