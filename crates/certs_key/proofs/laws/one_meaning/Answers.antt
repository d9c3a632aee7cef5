use Rattle.certs_key.proofs.of_certs_basics.Values.{key_one}
use Rattle.certs_key.proofs.laws.one_meaning.Goals as goal

pub returns : goal.returns
returns c = λ m. key_one
