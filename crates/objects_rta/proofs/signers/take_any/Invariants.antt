use Rattle.std.proofs.Common.{length, map}
use Rattle.objects_cms.specs.bcder_content.Here.{here}
use Rattle.objects_cms.specs.objects_payload.ObjectText.{SpellsSigner}
use Rattle.objects_cms.specs.Signer.{IsSigner, signer_fields}
use Rattle.objects_rta.proofs.Repeated.{Repeated}
use Rattle.objects_rta.proofs.signers.take_any.Given as goal

abbrev pub invariant-loop-signers : goal.invariant-loop-signers
invariant-loop-signers g l = Repeated IsSigner SpellsSigner (map signer_fields l.signers.items) (here g.S.Source.rest l.fn.cons) (here g.S.Source.rest l.cons)

abbrev pub decreases-loop-signers : goal.decreases-loop-signers
decreases-loop-signers g l = length (g.S.Source.rest l.cons.octets.source.source)
