use Rattle.std.proofs.Common.{◌≡◌, ◌+◌, ◌<◌, ◌≤◌, ℕ}
use Rattle.objects_rta_anchors.specs.Anchors.{IsBelow}
use Rattle.objects_rta_anchors.specs.Ends.{IsOpenAt}
use Rattle.objects_rta_anchors.proofs.below.first_below.Given as goal

abbrev pub invariant-loop-signer : goal.invariant-loop-signer
invariant-loop-signer g l = record {
  before : (k : ℕ) → k < l.signer → IsOpenAt (IsBelow (g.V.Verifier.says l.fn.verifier) l.fn.ca.holder.cert) l.fn.ends.certs.now l.fn.ends.places.now l.fn.anchors k → ⊥;
  same : g.V.Verifier.says l.verifier ≡ g.V.Verifier.says l.fn.verifier;
  asked : g.V.Verifier.count l.verifier ≤ g.V.Verifier.count l.fn.verifier + l.signer;
}
