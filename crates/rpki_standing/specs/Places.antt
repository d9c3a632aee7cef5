-- Places of entries by their rows of octets.
use Rattle.std.specs.Prelude.{◌≡◌, ℕ, ◌<◌, List, get_or, length, map}
use Rattle.std.specs.declared.cmp.Ordering.{Ordering}
use Rattle.std.specs.Ordering.{nat_cmp}
use Rattle.std.specs.Cmp.Lexicographic.{slice_cmp}

-- How the row of the entry at a place stands to that one, compared octet by octet.
abbrev pub stands_at : {X : Type 0} → (X → List ℕ) → List X → List ℕ → ℕ → Ordering
stands_at row xs key k = slice_cmp nat_cmp (get_or (map row xs) k key) key

-- An entry stands there, and has that row.
pub record IsPlace {X : Type 0} (row : X → List ℕ) (xs : List X) (key : List ℕ) (k : ℕ)
    : Type 0 where
  pub inside : k < length xs
  pub same : get_or (map row xs) k key ≡ key
