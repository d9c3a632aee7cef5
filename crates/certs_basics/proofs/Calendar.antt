-- How jiff_core's calendar, which counts from the year -10000, gives the days since the year 0.
use Rattle.std.proofs.Common.{◌≡◌, ℕ, zero, suc, ◌+◌, ◌-◌, ◌<◌, ◌≤◌, refl, ap, arith, pos, unsigned_abs, to_z, w8, w16, ◌+ℤ◌}
use Rattle.std.proofs.lemmas.Int.{by_lt_z}
use Rattle.jiff_core.specs.Calendar as jiff
use Rattle.jiff_core.proofs.CalendarLemmas.{day_count-lt_year, days_from_civil-day_count}
use Rattle.jiff_core.proofs.DateLemmas.{civil, epoch_day_injective, epoch_day_range}
use Rattle.jiff_core.proofs.MarchLemmas.{day_count-early, leap_day, leap_day-shift, days_in_year-leap_day, days_of_years-suc}
use Rattle.jiff_core.proofs.SignedLemmas.{one_part, signed_arith, signed_casts}
use Rattle.jiff_core.specs.declared.civil.date.Date.{Date}
use Rattle.jiff_core.specs.Date.{epoch_day, IsYmd}
use Rattle.certs_basics.specs.Times.{Civil, IsReal, days_before, seconds_of, days_in_month, days_of_months, days_of_years}

-- And so have the first months of a year.
pub days_of_months_same : (y n : ℕ) → jiff.days_of_months (pos y) n ≡ days_of_months y n
unfolding jiff.days_of_months days_of_months
days_of_months_same y zero = refl
days_of_months_same y (suc n) = ap (λ (k : ℕ). k + days_in_month y (suc n)) (days_of_months_same y n)

-- No days are before the year 0.
days_of_years_zero : days_of_years 0 ≡ 0
unfolding days_of_years
days_of_years_zero = refl

-- The days of each year of ours are 365 and the leap day.
days_of_years-suc_ours : (n : ℕ) → days_of_years (suc n) ≡ days_of_years n + 365 + leap_day (pos n)
unfolding days_of_years
days_of_years-suc_ours n = omega (arith, days_in_year-leap_day (pos n))

-- The years from 0 on are those from -10000 on, less the 10000 years before the year 0.
pub days_of_years_same : (n : ℕ) → jiff.days_of_years (n + 10000) ≡ days_of_years n + jiff.days_of_years 10000
days_of_years_same zero = omega (arith, days_of_years_zero)
days_of_years_same (suc n) =
    let next : suc n + 10000 ≡ suc (n + 10000) = omega arith in
    rw next (omega (arith, days_of_years_same n, days_of_years-suc (n + 10000), days_of_years-suc_ours n, leap_day-shift (pos n) (n + 10000) refl))

-- jiff_core has 3,652,425 days before 1 January 0.
day_count_zero : jiff.day_count (pos 0) 1 1 ≡ 3_652_425
day_count_zero = day_count-early (pos 0) 9999 1 1 refl (omega arith) (omega arith) (omega arith)

-- They are the days of the 10000 years from -10000 on.
years_before_zero : jiff.days_of_years 10000 ≡ 3_652_425
unfolding jiff.day_count jiff.days_of_months
years_before_zero = omega (arith, day_count_zero)

-- Its count for a date that is not before the year 0 is those days and ours.
day_count_same : (y m d : ℕ) → 1 ≤ d → jiff.day_count (pos y) m d ≡ 3_652_425 + (days_of_years y + days_of_months y (m - 1) + (d - 1))
unfolding jiff.day_count
day_count_same y m d h = omega (arith, years_before_zero, days_of_years_same y, days_of_months_same y (m - 1))

-- A date of jiff_core has these parts, which the calendar has.
pub record IsSameDate (d : Date) (y m k : ℕ) : Type 0 where
  pub year : d.year ≡ pos y
  pub month : d.month ≡ m
  pub day : d.day ≡ k
  pub month_in : (1 ≤ m) × (m ≤ 12)
  pub day_in : (1 ≤ k) × (k ≤ days_in_month y m)

-- The date that `Date::new` makes of small numbers has those numbers.
pub date_parts : (d : Date) (y m k : ℕ) → y < 10000 → m ≤ 127 → k ≤ 127 → IsYmd (to_z w16 y) (to_z w8 m) (to_z w8 k) d → IsSameDate d y m k
date_parts d y m k hy hm hk h =
    let year : d.year ≡ pos y = omega (arith, signed_casts) in
    let month : d.month ≡ m = omega (arith, signed_casts) in
    let day : d.day ≡ k = omega (arith, signed_casts) in
    let inside = rw (year, month) at d.day_in in
    record { year = year; month = month; day = day; month_in = omega (arith, d.month_in); day_in = omega arith }

-- The year 0 begins 3,652,059 days after -9999-01-01.
pub days_to_zero : (b : ℕ) → jiff.days_from_civil (pos 0) 1 1 +ℤ pos 4_371_587 ≡ pos b → b ≡ 3_652_059
days_to_zero b q = omega (arith, signed_arith, days_from_civil-day_count, day_count_zero)

-- What jiff_core counts from -9999-01-01 is those days and the days since the year 0.
pub days_since_zero : (d : Date) (y m k a : ℕ) → IsSameDate d y m k → epoch_day d +ℤ pos 4_371_587 ≡ pos a → a ≡ days_of_years y + days_of_months y (m - 1) + (k - 1) + 3_652_059
days_since_zero d y m k a s p =
    let at_date = rw (s.year, s.month, s.day) at p in
    omega (arith, signed_arith, days_from_civil-day_count, day_count_same y m k s.day_in.0)

-- A date that is not before the year 0 has a year that is not negative.
pub date_from_zero : (d : Date) (a : ℕ) → epoch_day d +ℤ pos 4_371_587 ≡ pos a → 3_652_059 ≤ a → IsSameDate d (unsigned_abs d.year) d.month d.day
date_from_zero d a p le =
    let year : d.year ≡ pos (unsigned_abs d.year) = by_lt_z d.year (pos 0)
    (λ before. absurd (omega (arith, signed_arith, days_from_civil-day_count, day_count_zero, day_count-lt_year d.year d.month d.day (pos 0) 1 1 (civil d) (omega arith) before)))
    (λ after. omega (arith, signed_arith, one_part d.year)) in
    let inside = rw year at d.day_in in
    record { year = year; month = refl; day = refl; month_in = d.month_in; day_in = inside }

-- The date of a real moment, as jiff_core has it.
abbrev date_of : (c : Civil) → IsReal c → Date
date_of c r = record {
  year = pos c.year;
  month = c.month;
  day = c.day;
  year_in = omega (arith, signed_arith);
  month_in = r.month;
  day_in = r.day;
}

-- Two dates with as many days before them are one.
pub one_date : (a b : Civil) → IsReal a → IsReal b → days_before a ≡ days_before b → (a.year ≡ b.year) × (a.month ≡ b.month) × (a.day ≡ b.day)
one_date a b r s e =
    let before_a = day_count_same a.year a.month a.day r.day.0 in
    let before_b = day_count_same b.year b.month b.day s.day.0 in
    let same : epoch_day (date_of a r) ≡ epoch_day (date_of b s) = omega (arith, signed_arith, days_from_civil-day_count) in
    let parts = epoch_day_injective (date_of a r) (date_of b s) same in
    (cc, parts.1, parts.2)

-- The years 0 to 9999 have 3,652,425 days.
pub seconds_below : (c : Civil) → IsReal c → seconds_of c < 315_569_520_000
seconds_below c r =
    let range = epoch_day_range (date_of c r) in
    let hour = r.hour in
    let minute = r.minute in
    let second = r.second in
    let days : days_before c < 3_652_425 = omega (arith, signed_arith, days_from_civil-day_count, day_count_same c.year c.month c.day r.day.0, range) in
    omega arith
