use Rattle.std.proofs.Common.{ap, ◌∙◌}
use Rattle.objects_rta_valid.specs.objects_rta.AttestationParts.{RtaValue}
use Rattle.objects_rta_valid.specs.certs_extension.Kinds.{As}
use Rattle.objects_rta_valid.specs.objects_rta.Attestations.{Attestation}
use Rattle.objects_rta_anchors.proofs.Finishing.{covered_by}
use Rattle.objects_rta_anchors.proofs.validation.Validation.is_as_covered.Goals as goal

pub returns : goal.returns
returns c =
    covered_by c.args.self.now As c.in_ok-is_same.is_same c.as_resources.result.now c.in_ok-held.held c.anchored-anchored.result
    c.anchored-anchored.ensures.certs c.anchored-anchored.ensures.issuers c.anchored-anchored.ensures.paths c.anchored-anchored.ensures.anchors
    (c.as_resources.ensures ∙ ap (λ (x : Attestation). x.resources.asn) c.content.ensures ∙ ap (λ (r : RtaValue). r.content.resources.asn) c.rta.ensures) c.in_ok-is_same.ensures c.in_ok-held.ensures
