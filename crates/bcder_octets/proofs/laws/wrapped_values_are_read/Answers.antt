use Rattle.bcder_octets.proofs.Around.{wraps_again}
use Rattle.bcder_octets.proofs.laws.wrapped_values_are_read.Goals as goal

pub returns : goal.returns
returns g c = λ x m inner tag ts is. wraps_again m inner tag ts (g.met.V.Values.spelled x inner) is
