use Rattle.std.proofs.Common.{subst}
use Rattle.objects_cms.proofs.of_bcder_content.Decoding.{exact_decode}
use Rattle.objects_cms.specs.bcder_content.Exact.{ReadsAs}
use Rattle.objects_cms.specs.bcder_content.Here.{here}
use Rattle.objects_cms.specs.bcder_tree.declared.mode.Mode.{Mode}
use Rattle.objects_rta.specs.Attestations.{Attestation, IsAttestation}
use Rattle.objects_rta.proofs.attestation.content.ResourceTaggedAttestation.decode.Goals as goal

pub returns : goal.returns
returns g c =
    let rest = g.I.Source.Source.rest in
    exact_decode (record { each = λ p q r m h. subst (λ (z : Mode). ReadsAs (λ (x : Attestation). x) (IsAttestation z) (here rest p.now) r (here rest q.now)) m h }) c.decode.ensures.decoded
