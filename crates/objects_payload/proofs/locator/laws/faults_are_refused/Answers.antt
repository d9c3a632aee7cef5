use Rattle.objects_payload.proofs.Whole.{no_locator}
use Rattle.objects_payload.proofs.locator.laws.faults_are_refused.Goals as goal

pub returns : goal.returns
returns c = no_locator
