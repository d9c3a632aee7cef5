-- Rows of octets in order.
use Rattle.std.specs.Prelude.{◌≡◌, ℕ, List, map}
use Rattle.std.specs.Ordering.{nat_cmp}
use Rattle.std.specs.Cmp.Lexicographic.{slice_cmp}
use Rattle.std.specs.List.Sorted.{IsStrictlySortedBy}
use Rattle.std.specs.declared.cmp.Ordering.TheVariants.{Less}

-- One row stands before another, compared octet by octet; a front of a row stands before it.
abbrev pub IsBefore : List ℕ → List ℕ → Type 0
IsBefore a b = slice_cmp nat_cmp a b ≡ Less

-- Each of the list stands before all after it, by the rows that `row` gives; so none occurs twice.
abbrev pub Ascends : {X : Type 0} → (X → List ℕ) → List X → Type 0
Ascends row xs = IsStrictlySortedBy (slice_cmp nat_cmp) (map row xs)
