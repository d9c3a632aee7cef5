use Rattle.std.proofs.Common.{subst}
use Rattle.objects_payload.proofs.of_bcder_content.Decoding.{exact_decode}
use Rattle.objects_payload.specs.bcder_content.Exact.{ReadsAs}
use Rattle.objects_payload.specs.bcder_content.Here.{here}
use Rattle.objects_payload.specs.bcder_tree.declared.mode.Mode.{Mode}
use Rattle.objects.specs.Checklists.{Checklist, IsChecklist}
use Rattle.objects.proofs.rsc.checklist.content.ResourceSignedChecklist.decode.Goals as goal

pub returns : goal.returns
returns g c =
    let rest = g.I.Source.Source.rest in
    exact_decode (record { each = λ p q r m h. subst (λ (z : Mode). ReadsAs (λ (x : Checklist). x) (IsChecklist z) (here rest p.now) r (here rest q.now)) m h }) c.decode.ensures.decoded
