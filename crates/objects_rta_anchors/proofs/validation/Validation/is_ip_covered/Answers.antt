use Rattle.std.proofs.Common.{ap, ◌∙◌}
use Rattle.objects_rta_valid.specs.objects_rta.AttestationParts.{RtaValue}
use Rattle.objects_rta_anchors.specs.Beginnings.{kind_of}
use Rattle.objects_rta_anchors.specs.Coverage.{stated_of}
use Rattle.objects_rta_anchors.proofs.Finishing.{covered_by}
use Rattle.objects_rta_anchors.proofs.validation.Validation.is_ip_covered.Goals as goal

pub returns : goal.returns
returns c =
    covered_by c.args.self.now (kind_of c.args.family) c.in_ok-is_same.is_same c.stated_ip.result.now c.in_ok-held.held c.anchored-anchored.result
    c.anchored-anchored.ensures.certs c.anchored-anchored.ensures.issuers c.anchored-anchored.ensures.paths c.anchored-anchored.ensures.anchors
    (c.stated_ip.ensures ∙ ap (λ (r : RtaValue). stated_of r.content.resources (kind_of c.args.family)) c.rta.ensures) c.in_ok-is_same.ensures c.in_ok-held.ensures
