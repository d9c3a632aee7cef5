use Rattle.certs_extension.proofs.Whole.{slots_one}
use Rattle.certs_extension.proofs.claims.laws.one_slots.Goals as goal

pub returns : goal.returns
returns c = λ all s t p q. slots_one all s t p q
