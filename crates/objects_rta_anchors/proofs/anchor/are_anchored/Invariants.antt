use Rattle.std.proofs.Common.{◌≡◌, ℕ, ◌<◌, Some}
use Rattle.std.specs.List.{slice_get}
use Rattle.objects_rta_anchors.specs.declared.anchor.Anchor.TheVariants.{Open}
use Rattle.objects_rta_anchors.proofs.anchor.are_anchored.Given as goal

abbrev pub invariant-loop-signer : goal.invariant-loop-signer
invariant-loop-signer l = (k : ℕ) → k < l.signer → slice_get l.fn.anchors k ≡ Some Open → ⊥
