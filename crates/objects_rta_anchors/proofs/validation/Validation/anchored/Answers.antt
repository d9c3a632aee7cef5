use Rattle.std.proofs.Common.{ap, ◌∙◌}
use Rattle.objects_rta_valid.specs.objects_rta.AttestationParts.{RtaValue}
use Rattle.objects_rta_anchors.proofs.Finishing.{kept_of}
use Rattle.objects_rta_anchors.proofs.validation.Validation.anchored.Goals as goal

pub returns-clause-certs : goal.returns-clause-certs
returns-clause-certs c = rw (← c.self.view_is) (c.certs_of.ensures ∙ ap (λ (r : RtaValue). r.signed.certs) c.rta.ensures)

pub returns-clause-kept : goal.returns-clause-kept
returns-clause-kept c =
    let f = c.self.inside in
    kept_of c.certs_of.result.now f.valid.rta.signed.certs c.paths.result.now.paths f.valid.paths c.as_slice-2.result.now f.ends.items c.as_slice-3.result.now f.anchors.items
    (c.certs_of.ensures ∙ ap (λ (r : RtaValue). r.signed.certs) c.rta.ensures) c.paths.ensures c.as_slice-2.ensures.value c.as_slice-3.ensures.value c.self.invariant
