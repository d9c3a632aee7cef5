use Rattle.bcder.proofs.Parts.{are_subidentifiers}
use Rattle.bcder.proofs.oid.laws.identifiers_are_subidentifiers.Goals as goal

pub returns : goal.returns
returns c = are_subidentifiers
