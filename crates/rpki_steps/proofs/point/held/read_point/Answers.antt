use Rattle.rpki_steps.specs.Holders.{sets_of}
use Rattle.rpki_rules.specs.Kinds.{InSet}
use Rattle.rpki_standing.proofs.Standings.{unheld_fails}
use Rattle.rpki_steps.proofs.PointLemmas.{claim_fails, claim_unheld, fit, unclaimed}
use Rattle.rpki_steps.proofs.point.held.read_point.Goals as goal

pub returns-in-Err-clause-refused : goal.returns-in-Err-clause-refused
returns-in-Err-clause-refused g c = unheld_fails _ _ _ c.in-Err.reason (rw (c.in-Err.is, c.as_cert.ensures) at c.in_ok-point.ensures.refused)

pub returns-in-Err-clause-unheld : goal.returns-in-Err-clause-unheld
returns-in-Err-clause-unheld g c = unclaimed _ (InSet (sets_of c.args.ca.now)) _ c.in-Err.reason (rw (c.in-Err.is, c.as_cert.ensures) at c.in_ok-point.ensures.refused)

pub returns-in-Ok-Ok-clause-stands : goal.returns-in-Ok-Ok-clause-stands
returns-in-Ok-Ok-clause-stands g c =
    fit _ _ _ c.in-Ok.point (rw (c.in-Ok.is, c.as_cert.ensures) at c.in_ok-point.ensures.found) (rw (c.in-Ok-Ok.field-0-is, c.manifest_cert.ensures) at c.in-Ok-Ok.ensures.told)

pub returns-in-Ok-Ok-clause-listed : goal.returns-in-Ok-Ok-clause-listed
returns-in-Ok-Ok-clause-listed g c = (rw (c.in-Ok.is, c.as_cert.ensures) at c.in_ok-point.ensures.found).keys

pub returns-in-Ok-Err-clause-refused : goal.returns-in-Ok-Err-clause-refused
returns-in-Ok-Err-clause-refused g c =
    claim_fails _ _ _ c.in-Ok.point (rw (c.in-Ok.is, c.as_cert.ensures) at c.in_ok-point.ensures.found) c.in-Ok-Err.numbers (rw (c.in-Ok-Err.field-0-is, c.manifest_cert.ensures) at c.in-Ok-Err.ensures.told)

pub returns-in-Ok-Err-clause-unheld : goal.returns-in-Ok-Err-clause-unheld
returns-in-Ok-Err-clause-unheld g c =
    claim_unheld _ _ _ c.in-Ok.point (rw (c.in-Ok.is, c.as_cert.ensures) at c.in_ok-point.ensures.found) c.in-Ok-Err.numbers (rw (c.in-Ok-Err.field-0-is, c.manifest_cert.ensures) at c.in-Ok-Err.ensures.told)
