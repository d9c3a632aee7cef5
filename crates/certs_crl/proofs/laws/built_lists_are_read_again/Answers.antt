use Rattle.certs_crl.proofs.Again.{built_again}
use Rattle.certs_crl.proofs.laws.built_lists_are_read_again.Goals as goal

pub returns : goal.returns
returns c = λ crl text fields agree w. built_again c.crl_is_spelled.ensures crl text fields agree w
