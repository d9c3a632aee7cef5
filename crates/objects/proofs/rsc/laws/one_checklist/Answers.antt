use Rattle.objects.proofs.OneChecklist.{checklist_one}
use Rattle.objects.proofs.rsc.laws.one_checklist.Goals as goal

pub returns : goal.returns
returns c = checklist_one
