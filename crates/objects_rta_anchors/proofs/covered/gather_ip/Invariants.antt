use Rattle.std.proofs.Common.{ℕ}
use Rattle.objects_rta_anchors.specs.Beginnings.{kind_of}
use Rattle.objects_rta_anchors.specs.Lent.{SignerCovers}
use Rattle.objects_rta_anchors.proofs.Covering.{GatheredBelow}
use Rattle.objects_rta_anchors.proofs.covered.gather_ip.Given as goal

abbrev pub invariant-loop-signer : goal.invariant-loop-signer
invariant-loop-signer l = GatheredBelow (λ (signer n : ℕ). SignerCovers l.fn.anchored (kind_of l.fn.family) n signer) l.signer l.all
