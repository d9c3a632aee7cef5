-- What is chosen of two lists of numbers.
use Rattle.std.specs.Prelude.{◌≡◌, ℕ, ◌+◌, ◌==◌, ◌&&◌, ◌||◌, not, Bool, true, false, cond, zero, suc, ◌⊎◌, List, [], ◌∷◌, map, length, ◌<◌}
use Rattle.resources_asn.specs.Numbers.{Number}
use Rattle.resources_asn.specs.Listed.{IsBelow}
use Rattle.resources_asn.specs.declared.selection.Choice.{Choice}
use Rattle.resources_asn.specs.declared.selection.Choice.TheVariants.{Either, Both, FirstOnly, OneOnly}

abbrev pub values : List Number → List ℕ
values numbers = map (λ a. a.value) numbers

abbrev pub has : List ℕ → ℕ → Bool
has [] n = false
has (x ∷ xs) n = (n == x) || has xs n

-- Whether a number is chosen, by the lists that have it.
abbrev pub chooses : Choice → Bool → Bool → Bool
chooses Either first second = first || second
chooses Both first second = first && second
chooses FirstOnly first second = first && not second
chooses OneOnly first second = (first && not second) || (second && not first)

abbrev pub is_chosen : Choice → List ℕ → List ℕ → ℕ → Bool
is_chosen choice first second n = chooses choice (has first n) (has second n)

-- The numbers from one on, so many of them, that pass a test.
unfoldable pub passing_from : (ℕ → Bool) → ℕ → ℕ → List ℕ
passing_from p first zero = []
passing_from p first (suc k) =
    cond (p first) (first ∷ passing_from p (first + 1) k) (passing_from p (first + 1) k)

-- The AS numbers that pass a test, ascending.
unfoldable pub passing : (ℕ → Bool) → List ℕ
passing p = passing_from p 0 4294967296

-- A list without the number, where the number is its first or below all of it; whether it was the first.
abbrev pub Leaves : List ℕ → List ℕ → ℕ → Bool → Type 0
Leaves old new n was =
    ((was ≡ true) × (old ≡ n ∷ new)) ⊎ ((was ≡ false) × (old ≡ new) × IsBelow n old)

-- The least number of two lists is taken from both.
pub record TakesLeast (first second first_left second_left : List ℕ) (n : ℕ)
    (in_first in_second : Bool) : Type 0 where
  pub from_first : Leaves first first_left n in_first
  pub from_second : Leaves second second_left n in_second
  pub shorter : length first_left + length second_left < length first + length second
