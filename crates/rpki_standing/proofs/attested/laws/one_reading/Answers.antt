use Rattle.rpki_standing.proofs.Reading.{one_reading}
use Rattle.rpki_standing.proofs.attested.laws.one_reading.Goals as goal

pub returns-clause-object : goal.returns-clause-object
returns-clause-object c = λ w uri o p x y h k. (one_reading w uri o p x y h k).0

pub returns-clause-payload : goal.returns-clause-payload
returns-clause-payload c = λ w uri o p x y h k. (one_reading w uri o p x y h k).1
