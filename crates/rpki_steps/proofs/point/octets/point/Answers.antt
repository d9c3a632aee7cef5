use Rattle.rpki_steps.proofs.Claimed.{by_holder, unfit_there}
use Rattle.rpki_steps.proofs.Stands.{fits_there, none_fits, none_stands}
use Rattle.rpki_steps.proofs.point.octets.point.Goals as goal

pub returns-in_default-clause-found : goal.returns-in_default-clause-found
returns-in_default-clause-found g c = none_stands _ _ _ (rw (c.in_default.is, c.as_cert.ensures) at c.in_ok-point.ensures.found)

pub returns-in-Ok-Ok-clause-found : goal.returns-in-Ok-Ok-clause-found
returns-in-Ok-Ok-clause-found g c =
    let fits = by_holder c.in-Some.point.manifest_cert c.args.ca.now (rw c.in-Ok-Ok.field-0-is at c.in-Ok-Ok.ensures.told) in
    fits_there _ _ _ c.in-Some.point (rw (c.in-Some.is, c.as_cert.ensures) at c.in_ok-point.ensures.found) fits

pub returns-in-Ok-Err-clause-found : goal.returns-in-Ok-Err-clause-found
returns-in-Ok-Err-clause-found g c =
    let unfit = unfit_there c.in-Some.point.manifest_cert c.args.ca.now c.in-Ok-Err.numbers (rw c.in-Ok-Err.field-0-is at c.in-Ok-Err.ensures.told) in
    none_fits _ _ _ c.in-Some.point (rw (c.in-Some.is, c.as_cert.ensures) at c.in_ok-point.ensures.found) unfit
