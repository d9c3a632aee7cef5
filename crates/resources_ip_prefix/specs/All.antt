-- All addresses (RFC 3779 2.1.1).
use Rattle.std.specs.Prelude.{ℕ, ◌-◌, ◌^◌}
use Rattle.resources_chain.specs.Sets.{Run}

-- The last address: 128 ones.
abbrev pub last_address : ℕ
last_address = 2 ^ 128 - 1

-- The addresses from the first, 0, to the last.
abbrev pub all_addresses : Run
all_addresses = record { first = 0; last = last_address }
