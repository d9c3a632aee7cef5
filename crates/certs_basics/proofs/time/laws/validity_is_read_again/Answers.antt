use Rattle.certs_basics.proofs.of_bcder_values.Returning.{read_again}
use Rattle.certs_basics.proofs.Meanings.{validity_spelled}
use Rattle.certs_basics.proofs.time.laws.validity_is_read_again.Goals as goal

pub returns : goal.returns
returns c = λ a b tag other first second m text p q w. read_again m text (validity_spelled m a b tag other first second text p q w)
