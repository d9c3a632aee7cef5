use Rattle.bcder_values.proofs.Returning.{read_again}
use Rattle.bcder_values.proofs.laws.what_is_written_is_read.Goals as goal

pub returns : goal.returns
returns g c = λ x m text w. read_again m text (g.met.V.Values.spelled x m text w)
