-- Places that are on paths.
use Rattle.std.specs.Prelude.{ℕ, Bool, List, nat_eq}
use Rattle.std.specs.List.{list_any}

-- Whether the list has the place, and whether one of the lists does.
abbrev pub has : List ℕ → ℕ → Bool
has places place = list_any (nat_eq place) places

abbrev pub some_has : List (List ℕ) → ℕ → Bool
some_has paths place = list_any (λ path. has path place) paths
