use Rattle.certs_extension.proofs.Finished.{no_claims}
use Rattle.certs_extension.proofs.claims.slots.Slots.finish.Goals as goal

pub returns-in-Err-clause-none : goal.returns-in-Err-clause-none
returns-in-Err-clause-none c = λ claims f. no_claims c.args.self _ claims c.in-Err.ensures.refused f
