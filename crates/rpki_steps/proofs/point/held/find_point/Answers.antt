use Rattle.rpki_rules.specs.ReasonViews.{point_reason_of}
use Rattle.rpki_rules.proofs.PointReasons.{refutes}
use Rattle.rpki_steps.proofs.point.held.find_point.Goals as goal

pub returns-in-Ok-clause-read : goal.returns-in-Ok-clause-read
returns-in-Ok-clause-read g c = rw c.in-Ok.is at c.in_ok-point.ensures.stands

pub returns-in-Ok-clause-listed : goal.returns-in-Ok-clause-listed
returns-in-Ok-clause-listed g c = rw c.in-Ok.is at c.in_ok-point.ensures.listed

pub returns-in-Err-clause-read : goal.returns-in-Err-clause-read
returns-in-Err-clause-read g c = refutes _ _ _ (point_reason_of c.in-Err.reason) (rw c.in-Err.is at c.in_ok-point.ensures.refused)
