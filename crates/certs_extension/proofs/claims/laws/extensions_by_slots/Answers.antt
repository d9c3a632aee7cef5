use Rattle.certs_extension.proofs.Whole.{extensions_there, slots_there}
use Rattle.certs_extension.proofs.claims.laws.extensions_by_slots.Goals as goal

pub returns : goal.returns
returns c = λ all cert. (slots_there all cert, λ x. extensions_there all cert x.0 x.1 x.2)
