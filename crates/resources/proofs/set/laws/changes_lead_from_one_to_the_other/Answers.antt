use Rattle.resources.proofs.Changing.{leads}
use Rattle.resources.proofs.set.laws.changes_lead_from_one_to_the_other.Goals as goal

pub returns : goal.returns
returns c = leads
