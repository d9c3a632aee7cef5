-- Validity: from one moment to another, both included (RFC 5280 4.1.2.5).
use Rattle.std.specs.Prelude.{◌≡◌, ℕ, ◌≤◌, ◌⊎◌, ℤ, pos, ◌+ℤ◌}
use Rattle.certs_basics.specs.Times.{Civil, IsReal, seconds_of}

pub record Period : Type 0 where
  pub not_before : ℕ
  pub not_after : ℕ

-- Both ends included.
pub record IsValidAt (p : Period) (now : ℕ) : Type 0 where
  pub begun : p.not_before ≤ now
  pub not_over : now ≤ p.not_after

abbrev pub as_fields : Period → ℕ × (ℕ × Unit {0})
as_fields p = (p.not_before, (p.not_after, tt))

-- The seconds of a moment: some date and time of day has so many before it.
pub record IsTimeNumber (seconds : ℕ) : Type 0 where
  pub civil : Civil
  pub real : IsReal civil
  pub seconds_are : seconds ≡ seconds_of civil

-- So many seconds later, or earlier where the number is negative.
abbrev pub IsLater : ℕ → ℤ → ℕ → Type 0
IsLater now n then = pos then ≡ (pos now +ℤ n)

-- Between that moment and this, whichever is first.
pub record IsBetween (now then : ℕ) (p : Period) : Type 0 where
  pub ordered : p.not_before ≤ p.not_after
  pub ends : ((p.not_before ≡ now) × (p.not_after ≡ then))
      ⊎ ((p.not_before ≡ then) × (p.not_after ≡ now))
