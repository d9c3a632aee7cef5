-- The numbers of runs, one by one.
use Rattle.std.specs.Prelude.{ℕ, ◌+◌, ◌-◌, List, [], ◌∷◌, ◌++◌}
use Rattle.std.specs.List.{range_with_len}
use Rattle.resources_asn.specs.resources_chain.Sets.{Run}

-- From `first` on, as many as `count`.
abbrev pub run_count : Run → ℕ
run_count r = r.last + 1 - r.first

-- How many numbers maximal runs have, together.
abbrev pub runs_count : List Run → ℕ
runs_count [] = 0
runs_count (r ∷ rs) = run_count r + runs_count rs

-- The numbers of a run, ascending.
unfoldable pub run_numbers : Run → List ℕ
run_numbers r = range_with_len r.first (run_count r)

-- The numbers of runs, in the runs' order.
abbrev pub runs_numbers : List Run → List ℕ
runs_numbers [] = []
runs_numbers (r ∷ rs) = run_numbers r ++ runs_numbers rs
