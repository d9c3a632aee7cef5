use Rattle.certs_key.proofs.of_bcder_values.Returning.{read_again}
use Rattle.certs_key.proofs.Written.{algorithm_spelled}
use Rattle.certs_key.proofs.algorithm.laws.x509_is_read_again.Goals as goal

pub returns : goal.returns
returns c = λ a m text w. read_again m text (algorithm_spelled _ a m text w)
