use Rattle.bcder_number.specs.Contents.{one_number}
use Rattle.bcder_number.proofs.laws.one_number.Goals as goal

pub returns : goal.returns
returns c = λ octets x y s t. one_number octets x y s t
