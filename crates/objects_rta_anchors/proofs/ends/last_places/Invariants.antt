use Rattle.objects_rta_anchors.proofs.Ending.{EndsBelow}
use Rattle.objects_rta_anchors.proofs.ends.last_places.Given as goal

abbrev pub invariant-loop-signer : goal.invariant-loop-signer
invariant-loop-signer l = EndsBelow l.paths.paths l.signer l.ends.items
