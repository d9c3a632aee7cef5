use Rattle.objects_rta_anchors.specs.Anchors.{IsAtLocator}
use Rattle.objects_rta_anchors.specs.Ends.{IsOpenAt}
use Rattle.objects_rta_anchors.specs.declared.anchor.Anchor.TheVariants.{Locator}
use Rattle.objects_rta_anchors.proofs.Marking.{FoundBelow, MarkedBelow}
use Rattle.objects_rta_anchors.proofs.locator.mark_locator.Given as goal

abbrev pub invariant-loop-signer : goal.invariant-loop-signer
invariant-loop-signer l = record {
  found : FoundBelow (IsOpenAt (IsAtLocator l.fn.tal.key) l.fn.ends.certs.now l.fn.ends.places.now l.fn.anchors.items) l.signer l.found;
  marked : MarkedBelow (IsOpenAt (IsAtLocator l.fn.tal.key) l.fn.ends.certs.now l.fn.ends.places.now l.fn.anchors.items) Locator l.signer l.fn.anchors.items l.anchors.items;
}
