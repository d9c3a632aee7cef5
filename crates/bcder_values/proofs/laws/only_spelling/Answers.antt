use Rattle.bcder_values.proofs.Returning.{alone}
use Rattle.bcder_values.proofs.laws.only_spelling.Goals as goal

pub returns : goal.returns
returns g c = λ x m text r w. alone m text r (g.met.V.Values.spelled x m text w)
