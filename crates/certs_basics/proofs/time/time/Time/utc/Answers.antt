use Rattle.std.proofs.Common.{arith}
use Rattle.certs_basics.proofs.Calendar.{date_parts, days_to_zero, days_since_zero}
use Rattle.certs_basics.proofs.time.time.Time.utc.Goals as goal

pub overflow_sub-days_since_min : goal.overflow_sub-days_since_min
overflow_sub-days_since_min c =
    let d = c.in-Ok.date in
    let same = date_parts d _ _ _ (omega arith) (omega arith) (omega arith) c.in-Ok.ensures.value in
    omega (arith, days_since_zero d _ _ _ _ same c.days_since_min.ensures.value, days_to_zero _ c.days_since_min-2.ensures.value)

pub invariant_of-result : goal.invariant_of-result
invariant_of-result c =
    omega (arith, days_to_zero _ c.days_since_min-2.ensures.value)

pub returns : goal.returns
returns c =
    let d = c.in-Ok.date in
    let same = date_parts d _ _ _ (omega arith) (omega arith) (omega arith) c.in-Ok.ensures.value in (
      record { year = omega arith; month = omega arith; day = omega arith; hour = omega arith; minute = omega arith; second = omega arith },
      omega (arith, days_since_zero d _ _ _ _ same c.days_since_min.ensures.value, days_to_zero _ c.days_since_min-2.ensures.value),
    )
