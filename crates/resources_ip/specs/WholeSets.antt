-- Sets over whole IPv4 addresses, which are the first 32 of 128 bits.
use Rattle.std.specs.Prelude.{◌≡◌, ℕ, ◌/◌, ◌^◌, List}
use Rattle.resources_ip.specs.resources_chain.Sets.{Run, InRuns}
use Rattle.resources_ip.specs.resources_chain.Claims.{Choice, Lists}

-- Of the numbers that begin with the same 32 bits all or none are in the set.
abbrev pub AreWhole : List Run → Type 0
AreWhole runs = (n m : ℕ) → n / 2 ^ 96 ≡ m / 2 ^ 96 → InRuns runs n → InRuns runs m

-- And of them all or none are listed.
abbrev pub ListsWhole : Choice → Type 0
ListsWhole choice = (n m : ℕ) → n / 2 ^ 96 ≡ m / 2 ^ 96 → Lists choice n → Lists choice m
