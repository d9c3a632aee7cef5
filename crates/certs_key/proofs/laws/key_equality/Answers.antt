use Rattle.std.proofs.Common.{ap}
use Rattle.certs_key.specs.certs_basics.Keys.{encoded}
use Rattle.certs_key.proofs.Alike.{equal_keys, same_encoded}
use Rattle.certs_key.proofs.laws.key_equality.Goals as goal

pub returns-clause-values : goal.returns-clause-values
returns-clause-values c = equal_keys

pub returns-clause-encoded : goal.returns-clause-encoded
returns-clause-encoded c = λ a b t. ap encoded ((equal_keys a b).0 t)

pub returns-clause-unused : goal.returns-clause-unused
returns-clause-unused c = same_encoded
