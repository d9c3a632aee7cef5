-- Address prefixes as runs of numbers of 128 bits (RFC 3779 2.1.1, 2.2.3.8).
use Rattle.std.specs.Prelude.{ℕ, ◌+◌, ◌-◌, ◌*◌, ◌/◌, ◌^◌}
use Rattle.resources_chain.specs.Sets.{Run}

-- How many addresses begin with the same `len` bits.
abbrev pub span_of : ℕ → ℕ
span_of len = 2 ^ (128 - len)

-- The address with all but its first `len` bits cleared, and with them set.
abbrev pub first_of : ℕ → ℕ → ℕ
first_of len n = n / span_of len * span_of len

abbrev pub last_of : ℕ → ℕ → ℕ
last_of len n = first_of len n + (span_of len - 1)

-- The addresses of a prefix: its own, whose bits after the first `len` are zeros, up to that with ones there.
abbrev pub prefix_run : ℕ → ℕ → Run
prefix_run addr len = record { first = addr; last = addr + (span_of len - 1) }
