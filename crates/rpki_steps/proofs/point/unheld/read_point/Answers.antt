use Rattle.rpki_standing.proofs.Standings.{unheld_refutes}
use Rattle.rpki_steps.proofs.point.unheld.read_point.Goals as goal

pub returns-in-Ok-clause-read : goal.returns-in-Ok-clause-read
returns-in-Ok-clause-read g c = (rw c.in-Ok.is at c.in_ok-point.ensures.found).point

pub returns-in-Ok-clause-listed : goal.returns-in-Ok-clause-listed
returns-in-Ok-clause-listed g c = (rw c.in-Ok.is at c.in_ok-point.ensures.found).keys

pub returns-in-Err-clause-read : goal.returns-in-Err-clause-read
returns-in-Err-clause-read g c = unheld_refutes _ _ c.in-Err.reason (rw c.in-Err.is at c.in_ok-point.ensures.refused)
