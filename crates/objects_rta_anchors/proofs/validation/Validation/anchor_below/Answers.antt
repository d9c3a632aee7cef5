use Rattle.std.proofs.Common.{◌∙◌, ◌≡◌, ℕ, length, refl, ap, sym, subst, arith}
use Rattle.objects_rta_valid.specs.certs_extension.Cert.{CertValue}
use Rattle.objects_rta_valid.specs.objects_rta.AttestationParts.{RtaValue}
use Rattle.objects_rta_anchors.specs.declared.anchor.Anchor.TheVariants.{Issuer}
use Rattle.objects_rta_anchors.specs.Anchors.{AnchoredValue, AreMarked, IsBelow, IsOpenEnd}
use Rattle.objects_rta_anchors.specs.Ends.{IsOpenAt}
use Rattle.objects_rta_anchors.proofs.Opening.{at_of, end_of, lent_of, open_ends}
use Rattle.objects_rta_anchors.proofs.Marking.{marked_of, marks_same}
use Rattle.objects_rta_anchors.proofs.validation.Validation.anchor_below.Goals as goal

pub mark_issuer-requires-clause-here : goal.mark_issuer-requires-clause-here
mark_issuer-requires-clause-here g c =
    let A : CertValue → Type 0 = IsBelow (g.V.Verifier.says c.args.verifier.now) c.args.ca.now.holder.cert in
    let f = c.self.inside in
    let v : AnchoredValue = record { rta = f.valid.rta; paths = f.valid.paths; anchors = f.anchors.items; issuers = f.issuers.items } in
    lent_of A f.valid.rta.signed.certs c.certs_of-certs.result.now f.ends.items c.as_slice-places.result.now f.anchors.items f.anchors.items c.args.first
    (sym (c.certs_of-certs.ensures ∙ ap (λ (r : RtaValue). r.signed.certs) c.rta.ensures)) (sym c.as_slice-places.ensures.value) refl
    (at_of A v f.ends.items c.self.invariant.are_ends c.args.first (subst (λ (w : AnchoredValue). IsOpenEnd A w c.args.first) (sym c.self.view_is) c.requires.here))

pub mark_issuer-requires-clause-before : goal.mark_issuer-requires-clause-before
mark_issuer-requires-clause-before g c = λ k lt o.
    let A : CertValue → Type 0 = IsBelow (g.V.Verifier.says c.args.verifier.now) c.args.ca.now.holder.cert in
    let f = c.self.inside in
    let v : AnchoredValue = record { rta = f.valid.rta; paths = f.valid.paths; anchors = f.anchors.items; issuers = f.issuers.items } in
    c.requires.before k lt (subst (λ (w : AnchoredValue). IsOpenEnd A w k) c.self.view_is (end_of A v f.ends.items c.self.invariant.are_ends k
    (lent_of A c.certs_of-certs.result.now f.valid.rta.signed.certs c.as_slice-places.result.now f.ends.items f.anchors.items f.anchors.items k
    (c.certs_of-certs.ensures ∙ ap (λ (r : RtaValue). r.signed.certs) c.rta.ensures) c.as_slice-places.ensures.value refl o)))

pub returns-clause-anchored : goal.returns-clause-anchored
returns-clause-anchored g c =
    let A : CertValue → Type 0 = IsBelow (g.V.Verifier.says c.args.verifier.now) c.args.ca.now.holder.cert in
    let f = c.self.inside in
    let v : AnchoredValue = record { rta = f.valid.rta; paths = f.valid.paths; anchors = f.anchors.items; issuers = f.issuers.items } in
    let marked : AreMarked (IsOpenAt A f.valid.rta.signed.certs f.ends.items f.anchors.items) (Issuer c.len-number.result) f.anchors.items c.mark_issuer.new.anchors.items =
    marked_of A (Issuer c.len-number.result) c.certs_of-certs.result.now f.valid.rta.signed.certs c.as_slice-places.result.now f.ends.items f.anchors.items c.mark_issuer.new.anchors.items (c.certs_of-certs.ensures ∙ ap (λ (r : RtaValue). r.signed.certs) c.rta.ensures) c.as_slice-places.ensures.value c.mark_issuer.ensures.marked in
    let number : c.len-number.result ≡ length f.issuers.items = omega (arith, c.len-number.ensures, f.issuers.ok.0) in
    let numbered : AreMarked (IsOpenAt A f.valid.rta.signed.certs f.ends.items f.anchors.items) (Issuer (length f.issuers.items)) f.anchors.items c.mark_issuer.new.anchors.items =
    subst (λ (n : ℕ). AreMarked (IsOpenAt A f.valid.rta.signed.certs f.ends.items f.anchors.items) (Issuer n) f.anchors.items c.mark_issuer.new.anchors.items) number marked in
    rw (← c.self.view_is) (marks_same (IsOpenAt A f.valid.rta.signed.certs f.ends.items f.anchors.items) (IsOpenEnd A v) (Issuer (length f.issuers.items)) f.anchors.items c.mark_issuer.new.anchors.items
    (open_ends A v f.ends.items c.self.invariant.are_ends) numbered)
