use Rattle.certs_key.proofs.of_bcder_values.Returning.{read_again}
use Rattle.certs_key.proofs.Written.{cms_spelled}
use Rattle.certs_key.proofs.algorithm.laws.cms_is_read_again.Goals as goal

pub returns : goal.returns
returns c = λ m text w. read_again m text (cms_spelled m text w)
