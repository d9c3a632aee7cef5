use Rattle.std.proofs.Common.{arith}
use Rattle.certs_basics.proofs.Moments.{moment_is_pairs, moment_told}
use Rattle.certs_basics.proofs.time.time.Time.from_generalized.Goals as goal

pub returns-in_err-century-clause-none : goal.returns-in_err-century-clause-none
returns-in_err-century-clause-none c =
    rw c.from_residual.ensures (λ s m. c.in_err-century.ensures.none _ (moment_is_pairs _ m.civil m.real m.text_is))

pub returns-clause-found : goal.returns-clause-found
returns-clause-found c = (moment_told _ _ _ c.utc.result c.in_ok-century.ensures.found (omega arith) c.utc.ensures).0

pub returns-clause-none : goal.returns-clause-none
returns-clause-none c = (moment_told _ _ _ c.utc.result c.in_ok-century.ensures.found (omega arith) c.utc.ensures).1
