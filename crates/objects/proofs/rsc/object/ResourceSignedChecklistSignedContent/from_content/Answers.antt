use Rattle.objects_valid.proofs.Texts.{front_decoded}
use Rattle.objects.specs.bcder_tree.declared.mode.Mode.TheVariants.{Der}
use Rattle.objects.specs.Checklists.{IsChecklist}
use Rattle.objects.proofs.rsc.object.ResourceSignedChecklistSignedContent.from_content.Goals as goal

pub returns : goal.returns
returns c = front_decoded (IsChecklist Der) _ _ c.decode.ensures
