-- Sets of numbers as lists, each number once, ascending.
use Rattle.std.specs.Prelude.{◌≡◌, ◌==◌, ℕ, ◌<◌, ◌⊎◌, ◌↔◌, Bool, List, [], ◌∷◌}
use Rattle.std.specs.List.{IsDistinct}
use Rattle.resources_asn.specs.Numbers.{Number}

abbrev pub InList : List ℕ → ℕ → Type 0
InList [] n = ⊥
InList (x ∷ xs) n = (n ≡ x) ⊎ InList xs n

-- Each number of the list is greater.
abbrev pub IsBelow : ℕ → List ℕ → Type 0
IsBelow n [] = Unit {0}
IsBelow n (x ∷ xs) = (n < x) × IsBelow n xs

-- Each number is smaller than all after it.
abbrev pub IsAscending : List ℕ → Type 0
IsAscending [] = Unit {0}
IsAscending (x ∷ xs) = IsBelow x xs × IsAscending xs

-- The numbers that P holds of, ascending.
pub record IsListOf (P : ℕ → Type 0) (numbers : List ℕ) : Type 0 where
  pub ascending : IsAscending numbers
  pub same : (n : ℕ) → InList numbers n ↔ P n

-- Whether they are one AS number.
abbrev pub is_same : Number → Number → Bool
is_same a b = a.value == b.value

-- No AS number stands twice.
abbrev pub AreDistinct : List Number → Type 0
AreDistinct asns = IsDistinct is_same asns
