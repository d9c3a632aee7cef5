use Rattle.certs_key.proofs.of_bcder_values.Returning.{read_again}
use Rattle.certs_key.proofs.Written.{digest_spelled, digests_spelled}
use Rattle.certs_key.proofs.algorithm.laws.digest_is_read_again.Goals as goal

pub returns-clause-alone : goal.returns-clause-alone
returns-clause-alone c = λ m text w. read_again m text (digest_spelled m text w)

pub returns-clause-set : goal.returns-clause-set
returns-clause-set c = λ m text w. read_again m text (digests_spelled m text w)
