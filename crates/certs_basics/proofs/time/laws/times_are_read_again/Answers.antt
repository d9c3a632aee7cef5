use Rattle.certs_basics.proofs.of_bcder_values.Returning.{read_again}
use Rattle.certs_basics.proofs.Meanings.{time_spelled, written_time}
use Rattle.certs_basics.proofs.time.laws.times_are_read_again.Goals as goal

pub returns-clause-value : goal.returns-clause-value
returns-clause-value c = written_time

pub returns-clause-octets : goal.returns-clause-octets
returns-clause-octets c = λ s tag content m text p w. read_again m text (time_spelled m s tag content text p w)
