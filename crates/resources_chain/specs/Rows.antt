-- Rows of places around what is sought, and how often they are looked at.
use Rattle.std.specs.Prelude.{◌≡◌, ℕ, ◌+◌, ◌<◌, ◌≤◌, ◌^◌, ◌⊎◌}
use Rattle.std.specs.declared.cmp.Ordering.{Ordering}
use Rattle.std.specs.declared.cmp.Ordering.TheVariants.{Less, Greater}

-- First places before what is sought, then at most one at it, then places after it: of any two the first is before it
-- or the second after it.
abbrev pub IsOrdered : ℕ → (ℕ → Ordering) → Type 0
IsOrdered size stands = (i j : ℕ) → i < j → j < size → (stands i ≡ Less) ⊎ (stands j ≡ Greater)

-- A count that has grown by no more than the size has binary digits; 0 has none.
pub record ProbesAtMost (size old new : ℕ) : Type 0 where
  pub more : old ≤ new
  pub few : (digits : ℕ) → size < 2 ^ digits → new ≤ old + digits
