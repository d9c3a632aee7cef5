use Rattle.rpki_steps.proofs.Told.{have_hashes}
use Rattle.rpki_steps.proofs.point.laws.files_have_hashes.Goals as goal

pub returns : goal.returns
returns c = have_hashes
