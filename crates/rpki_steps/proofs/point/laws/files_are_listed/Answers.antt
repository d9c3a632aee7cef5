use Rattle.rpki_steps.proofs.Told.{are_listed}
use Rattle.rpki_steps.proofs.point.laws.files_are_listed.Goals as goal

pub returns : goal.returns
returns c = are_listed
