use Rattle.std.proofs.Common.{◌≡◌, ◌%◌, ◌/◌, arith, unsigned_abs}
use Rattle.jiff_core.proofs.SignedLemmas.{signed_casts}
use Rattle.certs_basics.specs.Times.{Civil, IsReal}
use Rattle.certs_basics.proofs.Calendar.{IsSameDate, days_to_zero, days_since_zero, date_from_zero}
use Rattle.certs_basics.proofs.Moments.{moment_written}
use Rattle.certs_basics.proofs.time.time.Time.generalized.Goals as goal

pub from_days_since_min-date-requires : goal.from_days_since_min-date-requires
from_days_since_min-date-requires c =
    let inside = c.self.invariant in
    omega (arith, days_to_zero _ c.days_since_min.ensures.value)

pub returns : goal.returns
returns c =
    let d = c.from_days_since_min-date.result in
    let zero = days_to_zero _ c.days_since_min.ensures.value in
    let year : c.unsigned_abs-year.result ≡ unsigned_abs d.year = omega (arith, signed_casts) in
    let same : IsSameDate d c.unsigned_abs-year.result d.month d.day = rw year (date_from_zero d _ c.from_days_since_min-date.ensures (omega arith)) in
    let days = days_since_zero d _ _ _ _ same c.from_days_since_min-date.ensures in
    let second = c.self.inside.seconds % 86400 in
    let moment : Civil = record { year = c.unsigned_abs-year.result; month = d.month; day = d.day; hour = second / 3600; minute = second / 60 % 60; second = second % 60 } in
    let real : IsReal moment = record { year = omega (arith, signed_casts, d.year_in); month = same.month_in; day = same.day_in; hour = omega arith; minute = omega arith; second = omega arith } in
    moment_written _ moment _ real c.pair_digits.ensures (omega arith)
