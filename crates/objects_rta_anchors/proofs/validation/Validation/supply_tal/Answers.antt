use Rattle.std.proofs.Common.{◌≡◌, List, ap, ◌∙◌}
use Rattle.objects_rta_valid.specs.certs_extension.Cert.{CertValue}
use Rattle.objects_rta_valid.specs.objects_rta.AttestationParts.{RtaValue}
use Rattle.objects_rta_anchors.specs.declared.anchor.Anchor.{Anchor}
use Rattle.objects_rta_anchors.specs.declared.anchor.Anchor.TheVariants.{Locator}
use Rattle.objects_rta_anchors.specs.Anchors.{AnchoredValue, IsAtLocator, IsOpenEnd}
use Rattle.objects_rta_anchors.specs.Ends.{IsOpenAt}
use Rattle.objects_rta_anchors.proofs.Opening.{open_ends}
use Rattle.objects_rta_anchors.proofs.Keeping.{kept_locator}
use Rattle.objects_rta_anchors.proofs.Marking.{found_of, found_same, marked_of, marks_none, marks_same}
use Rattle.objects_rta_valid.proofs.Standing.{told_not}
use Rattle.objects_rta_anchors.proofs.validation.Validation.supply_tal.Goals as goal

pub invariant_of-self : goal.invariant_of-self
invariant_of-self c =
    let A : CertValue → Type 0 = IsAtLocator c.args.tal.now.key in
    let f = c.self.inside in
    kept_locator A f.valid.rta.signed.certs f.valid.paths f.ends.items f.anchors.items c.mark_locator.new.anchors.items (λ x e. e.0)
    (marked_of A Locator c.certs_of-certs.result.now f.valid.rta.signed.certs c.as_slice-places.result.now f.ends.items f.anchors.items c.mark_locator.new.anchors.items (c.certs_of-certs.ensures ∙ ap (λ (r : RtaValue). r.signed.certs) c.rta.ensures) c.as_slice-places.ensures.value c.mark_locator.ensures.marked) c.self.invariant

pub returns-clause-found : goal.returns-clause-found
returns-clause-found c =
    let A : CertValue → Type 0 = IsAtLocator c.args.tal.now.key in
    let f = c.self.inside in
    let v : AnchoredValue = record { rta = f.valid.rta; paths = f.valid.paths; anchors = f.anchors.items; issuers = f.issuers.items } in
    rw (← c.self.view_is) (found_same (IsOpenAt A f.valid.rta.signed.certs f.ends.items f.anchors.items) (IsOpenEnd A v) c.mark_locator.result (open_ends A v f.ends.items c.self.invariant.are_ends)
    (found_of A c.mark_locator.result c.certs_of-certs.result.now f.valid.rta.signed.certs c.as_slice-places.result.now f.ends.items f.anchors.items (c.certs_of-certs.ensures ∙ ap (λ (r : RtaValue). r.signed.certs) c.rta.ensures) c.as_slice-places.ensures.value c.mark_locator.ensures.found))

pub returns-clause-anchored : goal.returns-clause-anchored
returns-clause-anchored c =
    let A : CertValue → Type 0 = IsAtLocator c.args.tal.now.key in
    let f = c.self.inside in
    let v : AnchoredValue = record { rta = f.valid.rta; paths = f.valid.paths; anchors = f.anchors.items; issuers = f.issuers.items } in
    rw (← c.self.view_is) (marks_same (IsOpenAt A f.valid.rta.signed.certs f.ends.items f.anchors.items) (IsOpenEnd A v) Locator f.anchors.items c.mark_locator.new.anchors.items (open_ends A v f.ends.items c.self.invariant.are_ends)
    (marked_of A Locator c.certs_of-certs.result.now f.valid.rta.signed.certs c.as_slice-places.result.now f.ends.items f.anchors.items c.mark_locator.new.anchors.items (c.certs_of-certs.ensures ∙ ap (λ (r : RtaValue). r.signed.certs) c.rta.ensures) c.as_slice-places.ensures.value c.mark_locator.ensures.marked))

pub returns-clause-unfound : goal.returns-clause-unfound
returns-clause-unfound c = λ e.
    let A : CertValue → Type 0 = IsAtLocator c.args.tal.now.key in
    let f = c.self.inside in
    let same : c.mark_locator.new.anchors.items ≡ f.anchors.items =
    marks_none (IsOpenAt A c.certs_of-certs.result.now c.as_slice-places.result.now f.anchors.items) Locator f.anchors.items c.mark_locator.new.anchors.items (λ k p. told_not c.mark_locator.result c.mark_locator.ensures.found e (k, p)) c.mark_locator.ensures.marked in
    ap (λ (xs : List Anchor). let w : AnchoredValue = record { rta = f.valid.rta; paths = f.valid.paths; anchors = xs; issuers = f.issuers.items } in w) same ∙ c.self.view_is
