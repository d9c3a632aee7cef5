use Rattle.bcder_octets.proofs.Meaning.{one_string}
use Rattle.bcder_octets.proofs.laws.one_string.Goals as goal

pub returns : goal.returns
returns c = λ m tag. record { one = λ t x y p q. one_string m tag t x y p q }
