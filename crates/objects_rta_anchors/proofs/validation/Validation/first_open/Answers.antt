use Rattle.std.proofs.Common.{◌∙◌, ap, sym}
use Rattle.objects_rta_valid.specs.certs_extension.Cert.{CertValue}
use Rattle.objects_rta_valid.specs.objects_rta.AttestationParts.{RtaValue}
use Rattle.objects_rta_anchors.specs.Anchors.{AnchoredValue, IsBelow}
use Rattle.objects_rta_anchors.proofs.Opening.{at_of, end_of, lent_of}
use Rattle.objects_rta_anchors.proofs.validation.Validation.first_open.Goals as goal

pub returns-in-Some-clause-below : goal.returns-in-Some-clause-below
returns-in-Some-clause-below g c =
    let A : CertValue → Type 0 = IsBelow (g.V.Verifier.says c.args.verifier.now) c.args.ca.now.holder.cert in
    let f = c.self.inside in
    let v : AnchoredValue = record { rta = f.valid.rta; paths = f.valid.paths; anchors = f.anchors.items; issuers = f.issuers.items } in
    rw (← c.self.view_is) (end_of A v f.ends.items c.self.invariant.are_ends c.in-Some.first
    (lent_of A c.certs_of-certs.result.now f.valid.rta.signed.certs c.as_slice-places.result.now f.ends.items c.as_slice-anchors.result.now f.anchors.items c.in-Some.first
    (c.certs_of-certs.ensures ∙ ap (λ (r : RtaValue). r.signed.certs) c.rta.ensures) c.as_slice-places.ensures.value c.as_slice-anchors.ensures.value c.in-Some.ensures.below))

pub returns-in-Some-clause-before : goal.returns-in-Some-clause-before
returns-in-Some-clause-before g c =
    let A : CertValue → Type 0 = IsBelow (g.V.Verifier.says c.args.verifier.now) c.args.ca.now.holder.cert in
    let f = c.self.inside in
    let v : AnchoredValue = record { rta = f.valid.rta; paths = f.valid.paths; anchors = f.anchors.items; issuers = f.issuers.items } in
    rw (← c.self.view_is) (λ signer lt o. c.in-Some.ensures.before signer lt
    (lent_of A f.valid.rta.signed.certs c.certs_of-certs.result.now f.ends.items c.as_slice-places.result.now f.anchors.items c.as_slice-anchors.result.now signer
    (sym (c.certs_of-certs.ensures ∙ ap (λ (r : RtaValue). r.signed.certs) c.rta.ensures)) (sym c.as_slice-places.ensures.value) (sym c.as_slice-anchors.ensures.value) (at_of A v f.ends.items c.self.invariant.are_ends signer o)))

pub returns-in-None-clause-below : goal.returns-in-None-clause-below
returns-in-None-clause-below g c =
    let A : CertValue → Type 0 = IsBelow (g.V.Verifier.says c.args.verifier.now) c.args.ca.now.holder.cert in
    let f = c.self.inside in
    let v : AnchoredValue = record { rta = f.valid.rta; paths = f.valid.paths; anchors = f.anchors.items; issuers = f.issuers.items } in
    rw (← c.self.view_is) (λ s. c.in-None.ensures.below s.0
    (lent_of A f.valid.rta.signed.certs c.certs_of-certs.result.now f.ends.items c.as_slice-places.result.now f.anchors.items c.as_slice-anchors.result.now s.0
    (sym (c.certs_of-certs.ensures ∙ ap (λ (r : RtaValue). r.signed.certs) c.rta.ensures)) (sym c.as_slice-places.ensures.value) (sym c.as_slice-anchors.ensures.value) (at_of A v f.ends.items c.self.invariant.are_ends s.0 s.1)))
