use Rattle.objects_payload.proofs.Whole.{one_fault}
use Rattle.objects_payload.proofs.locator.laws.one_fault.Goals as goal

pub returns : goal.returns
returns c = one_fault
