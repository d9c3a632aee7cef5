-- What the walks over lists of blocks keep.
use Rattle.std.specs.Prelude.{ℕ, ◌≤◌, ◌⊎◌, ◌↔◌, ◌≡◌, List, [], ◌∷◌, ◌++◌}
use Rattle.resources_chain.specs.Sets.{Run, InRun, InRuns, AreMaximal, IsInside}

-- Each of the runs begins at the number or before.
abbrev pub BeginBy : ℕ → List Run → Type 0
BeginBy n [] = Unit {0}
BeginBy n (r ∷ rs) = (r.first ≤ n) × BeginBy n rs

-- Each begins no later than those after it.
abbrev pub AreAscending : List Run → Type 0
AreAscending [] = Unit {0}
AreAscending (r ∷ []) = Unit {0}
AreAscending (r ∷ s ∷ rs) = (r.first ≤ s.first) × AreAscending (s ∷ rs)

-- Each of the first runs begins where the first of the others does, or before; where there are no others, anywhere.
abbrev pub BeginByFirst : List Run → List Run → Type 0
BeginByFirst found [] = Unit {0}
BeginByFirst found (r ∷ rs) = BeginBy r.first found

-- There is none, or the first begins at the number or after.
abbrev pub BeginFrom : ℕ → List Run → Type 0
BeginFrom n [] = Unit {0}
BeginFrom n (r ∷ rs) = n ≤ r.first

-- There is none, or the first reaches the number.
abbrev pub FirstReaches : ℕ → List Run → Type 0
FirstReaches n [] = Unit {0}
FirstReaches n (r ∷ rs) = n ≤ r.last

-- Maximal runs with the numbers of others and of one more run, which begins after them all.
pub record Adds (old new : List Run) (r : Run) : Type 0 where
  pub maximal : AreMaximal new
  pub same : (n : ℕ) → InRuns new n ↔ (InRuns old n ⊎ InRun r n)
  pub order : BeginBy r.first new

-- Maximal runs with the numbers of others and of a set besides.
pub record AddsSet (old new : List Run) (P : ℕ → Type 0) : Type 0 where
  pub maximal : AreMaximal new
  pub same : (n : ℕ) → InRuns new n ↔ (InRuns old n ⊎ P n)

-- Maximal runs that have the numbers of others from `k` on.
pub record SameFrom (k : ℕ) (old new : List Run) : Type 0 where
  pub maximal : AreMaximal new
  pub same : (n : ℕ) → k ≤ n → InRuns new n ↔ InRuns old n

-- Two lists, and what is left of both where all runs before `rest` are inside the other list.
pub record InsideUpTo (a b rest left : List Run) : Type 0 where
  pub front : List Run
  pub whole : a ≡ front ++ rest
  pub inside : IsInside front b
  pub maximal : AreMaximal a
  pub left_maximal : AreMaximal left
  pub same : (n : ℕ) → InRuns rest n → InRuns left n ↔ InRuns b n

-- There is none, or the first isn't inside the other list.
abbrev pub FirstOutside : List Run → List Run → Type 0
FirstOutside [] left = Unit {0}
FirstOutside (r ∷ rs) left = ¬ ((n : ℕ) → InRun r n → InRuns left n)
