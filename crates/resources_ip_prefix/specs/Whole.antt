-- Runs over whole IPv4 addresses, which are the first 32 of 128 bits.
use Rattle.std.specs.Prelude.{◌≡◌, ◌-◌, ◌%◌, ◌^◌}
use Rattle.resources_chain.specs.Sets.{Run}

-- The other 96 bits are zeros in the first and ones in the last.
abbrev pub IsWhole : Run → Type 0
IsWhole r = (r.first % 2 ^ 96 ≡ 0) × (r.last % 2 ^ 96 ≡ 2 ^ 96 - 1)
