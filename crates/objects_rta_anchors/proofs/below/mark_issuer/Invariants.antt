use Rattle.std.proofs.Common.{◌≡◌, ◌+◌, ◌≤◌}
use Rattle.objects_rta_anchors.specs.Anchors.{IsBelow}
use Rattle.objects_rta_anchors.specs.Ends.{IsOpenAt}
use Rattle.objects_rta_anchors.specs.declared.anchor.Anchor.TheVariants.{Issuer}
use Rattle.objects_rta_anchors.proofs.Marking.{MarkedBelow}
use Rattle.objects_rta_anchors.proofs.below.mark_issuer.Given as goal

abbrev pub invariant-loop-signer : goal.invariant-loop-signer
invariant-loop-signer g l = record {
  marked : MarkedBelow (IsOpenAt (IsBelow (g.V.Verifier.says l.fn.verifier) l.fn.supplied.ca.now.holder.cert) l.fn.ends.certs.now l.fn.ends.places.now l.fn.anchors.items) (Issuer l.fn.supplied.number) l.signer l.fn.anchors.items l.anchors.items;
  same : g.V.Verifier.says l.verifier ≡ g.V.Verifier.says l.fn.verifier;
  asked : g.V.Verifier.count l.verifier + l.fn.first + 1 ≤ g.V.Verifier.count l.fn.verifier + l.signer;
}
