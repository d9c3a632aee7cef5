use Rattle.bcder.proofs.of_bcder_content.Unique.{such_one}
use Rattle.bcder_octets.proofs.Meaning.{one_string}
use Rattle.bcder.proofs.string.laws.one_string.Goals as goal

pub returns : goal.returns
returns g c = λ m tag. such_one (record { one = λ t x y p q. one_string m tag t x y p q })
