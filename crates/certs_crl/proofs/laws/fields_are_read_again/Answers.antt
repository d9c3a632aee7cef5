use Rattle.certs_x509.proofs.of_bcder_values.Returning.{read_again}
use Rattle.certs_crl.proofs.Again.{list_spelled}
use Rattle.certs_crl.proofs.laws.fields_are_read_again.Goals as goal

pub returns : goal.returns
returns c = λ fields m text w. read_again m text (list_spelled fields m text w)
