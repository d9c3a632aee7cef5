-- The three kinds of numbers that certificates list: IPv4 addresses, IPv6 addresses and AS numbers (RFC 3779 2, 3).
use Rattle.std.specs.Prelude.{ℕ, ◌*◌, ◌^◌, ◌<◌, List}
use Rattle.resources_chain.specs.Sets.{Run, InRuns}
use Rattle.resources_chain.specs.Claims.{Choice, Keeps}

pub data Kind : Type 0 where
  Ipv4 : Kind
  Ipv6 : Kind
  As : Kind

-- How many numbers there are: IPv4 addresses of 32 bits (RFC 791 2.3), IPv6 addresses of 128 (RFC 4291 2), AS numbers of 32
-- (RFC 6793 3).
abbrev pub limit : Kind → ℕ
limit Ipv4 = 2 ^ 32
limit Ipv6 = 2 ^ 128
limit As = 2 ^ 32

-- Where a set of the kind has the number: an IPv4 address as the first of the numbers of 128 bits that begin with its 32
-- (RFC 3779 2.1.1).
abbrev pub place : Kind → ℕ → ℕ
place Ipv4 n = n * 2 ^ 96
place Ipv6 n = n
place As n = n

-- The number of the kind is in the set, the choice lists it, the choice lists it or inherits.
abbrev pub HasNumber : Kind → List Run → ℕ → Type 0
HasNumber kind runs n = (n < limit kind) × InRuns runs (place kind n)

abbrev pub KeepsNumber : Kind → Choice → ℕ → Type 0
KeepsNumber kind choice n = (n < limit kind) × Keeps choice (place kind n)
