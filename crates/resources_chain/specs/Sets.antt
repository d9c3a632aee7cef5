-- Sets of numbers as lists of runs (RFC 3779 2.2.3 for addresses, 3.2.3 for AS numbers).
use Rattle.std.specs.Prelude.{ℕ, ◌+◌, ◌<◌, ◌≤◌, ◌⊎◌, ◌↔◌, List, [], ◌∷◌}

-- The numbers from first to last, both included (2.2.3.9, 3.2.3.7).
pub record Run : Type 0 where
  pub first : ℕ
  pub last : ℕ

abbrev pub InRun : Run → ℕ → Type 0
InRun r n = (r.first ≤ n) × (n ≤ r.last)

-- The number is in one of the runs.
abbrev pub InRuns : List Run → ℕ → Type 0
InRuns [] n = ⊥
InRuns (r ∷ rs) n = InRun r n ⊎ InRuns rs n

-- At least one number is missing between this number and each of the runs, which are all after it.
abbrev pub StandsApart : ℕ → List Run → Type 0
StandsApart n [] = Unit {0}
StandsApart n (r ∷ rs) = (n + 1 < r.first) × StandsApart n rs

-- None is empty, and each stands apart from all after it: ascending, neither overlapping nor touching
-- (2.2.3.6, 3.2.3.4).
abbrev pub AreMaximal : List Run → Type 0
AreMaximal [] = Unit {0}
AreMaximal (r ∷ rs) = (r.first ≤ r.last) × StandsApart r.last rs × AreMaximal rs

-- The maximal runs, ascending, of the set of numbers that P holds of.
pub record IsRunsOf (P : ℕ → Type 0) (runs : List Run) : Type 0 where
  pub maximal : AreMaximal runs
  pub same : (n : ℕ) → InRuns runs n ↔ P n

-- The numbers of both, together, are one run: they overlap, or one begins right after the other.
abbrev pub Touch : Run → Run → Type 0
Touch a b = (a.first ≤ b.last + 1) × (b.first ≤ a.last + 1)

-- Numbers of one set, of both, of one alone, and a set inside another.
abbrev pub InEither : List Run → List Run → ℕ → Type 0
InEither a b n = InRuns a n ⊎ InRuns b n

abbrev pub InBoth : List Run → List Run → ℕ → Type 0
InBoth a b n = InRuns a n × InRuns b n

abbrev pub InFirstOnly : List Run → List Run → ℕ → Type 0
InFirstOnly a b n = InRuns a n × ¬ (InRuns b n)

abbrev pub IsInside : List Run → List Run → Type 0
IsInside a b = (n : ℕ) → InRuns a n → InRuns b n
