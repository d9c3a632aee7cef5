use Rattle.std.proofs.Common.{ℕ}
use Rattle.objects_rta_valid.specs.certs_extension.Kinds.{As}
use Rattle.objects_rta_anchors.specs.Lent.{SignerCovers}
use Rattle.objects_rta_anchors.proofs.Covering.{GatheredBelow}
use Rattle.objects_rta_anchors.proofs.covered_as.gather_as.Given as goal

abbrev pub invariant-loop-signer : goal.invariant-loop-signer
invariant-loop-signer l = GatheredBelow (λ (signer n : ℕ). SignerCovers l.fn.anchored As n signer) l.signer l.all
