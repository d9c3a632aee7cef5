-- What an iterator over a block has left.
use Rattle.std.specs.Prelude.{ℕ, ◌≤◌, List, [], Option, Some, None}
use Rattle.resources_asn.specs.Numbers.{Number}
use Rattle.resources_asn.specs.Counted.{run_numbers}

-- The numbers from the next to the last; where there is no next, none.
abbrev pub numbers_left : Option Number → Number → List ℕ
numbers_left (Some n) last = run_numbers (record { first = n.value; last = last.value })
numbers_left None last = []

abbrev pub IsLeft : Option Number → Number → Type 0
IsLeft (Some n) last = n.value ≤ last.value
IsLeft None last = Unit {0}
