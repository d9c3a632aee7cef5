-- Moments: seconds since 0000-01-01 00:00:00 of the Gregorian calendar, extended to all years (ISO 8601), and their texts.
use Rattle.std.specs.Prelude.{◌≡◌, ℕ, zero, suc, ◌+◌, ◌-◌, ◌*◌, ◌/◌, ◌%◌, ◌<◌, ◌≤◌, Bool, not, ◌&&◌, ◌||◌, ◌==◌, if◌then◌else◌, List, [], ◌∷◌, ◌++◌}

-- Every fourth year, but of the hundreds only every fourth.
abbrev pub is_leap : ℕ → Bool
is_leap y = (y % 4 == 0) && (not (y % 100 == 0) || (y % 400 == 0))

-- The days of a month, 1 to 12.
abbrev pub days_in_month : ℕ → ℕ → ℕ
days_in_month y m =
    if m == 2 then (if is_leap y then 29 else 28)
    else (if (m == 4) || (m == 6) || (m == 9) || (m == 11) then 30 else 31)

-- The days of the first n months of a year.
unfoldable pub days_of_months : ℕ → ℕ → ℕ
days_of_months y zero = 0
days_of_months y (suc n) = days_of_months y n + days_in_month y (suc n)

-- The days of the first n years, from the year 0 on.
unfoldable pub days_of_years : ℕ → ℕ
days_of_years zero = 0
days_of_years (suc n) = days_of_years n + (if is_leap n then 366 else 365)

-- A date and a time of day.
pub record Civil : Type 0 where
  pub year : ℕ
  pub month : ℕ
  pub day : ℕ
  pub hour : ℕ
  pub minute : ℕ
  pub second : ℕ

-- The calendar has that date, and the day that time; a minute has no 61st second.
pub record IsReal (c : Civil) : Type 0 where
  pub year : c.year < 10000
  pub month : (1 ≤ c.month) × (c.month ≤ 12)
  pub day : (1 ≤ c.day) × (c.day ≤ days_in_month c.year c.month)
  pub hour : c.hour < 24
  pub minute : c.minute < 60
  pub second : c.second < 60

-- How many whole days are before the date.
abbrev pub days_before : Civil → ℕ
days_before c = days_of_years c.year + days_of_months c.year (c.month - 1) + (c.day - 1)

-- How many seconds are before the moment.
abbrev pub seconds_of : Civil → ℕ
seconds_of c = days_before c * 86400 + c.hour * 3600 + c.minute * 60 + c.second

-- A number in so many decimal digits.
abbrev pub digits : ℕ → ℕ → List ℕ
digits zero n = []
digits (suc count) n = digits count (n / 10) ++ (48 + n % 10) ∷ []

-- YYYYMMDDHHMMSSZ (RFC 5280 4.1.2.5.2); 90 is `Z`.
abbrev pub moment_text : Civil → List ℕ
moment_text c = digits 4 c.year ++ digits 2 c.month ++ digits 2 c.day ++ digits 2 c.hour ++ digits 2 c.minute ++ digits 2 c.second ++ 90 ∷ []

-- The text states a real moment, which has so many seconds.
pub record IsMoment (text : List ℕ) (seconds : ℕ) : Type 0 where
  pub civil : Civil
  pub real : IsReal civil
  pub text_is : text ≡ moment_text civil
  pub seconds_are : seconds ≡ seconds_of civil
