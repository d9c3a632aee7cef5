use Rattle.std.proofs.Common.{ap}
use Rattle.objects_payload.specs.Aspas.{Aspa}
use Rattle.objects_payload.proofs.Resources.{lists_alone}
use Rattle.objects_payload.proofs.aspa.attestation.AsProviderAttestation.as_resources.Goals as goal

pub returns : goal.returns
returns c =
    lists_alone _ _ _ _ _ _ (ap (λ (a : Aspa). a.customer) c.self.view_is) c.new-builder.ensures c.in_ok-push.ensures.ok c.in_ok-blocks.ensures c.blocks-resources.ensures.choice
