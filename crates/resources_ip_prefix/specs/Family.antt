-- Families of addresses (RFC 3779 2.2.3.3).
use Rattle.std.specs.Prelude.{◌≡◌, ◌<◌, ℕ, List, length, slice_index}
use Rattle.resources_ip_prefix.specs.declared.addr.AddressFamily.{AddressFamily}
use Rattle.resources_ip_prefix.specs.declared.addr.AddressFamily.TheVariants.{Ipv4, Ipv6}

-- How many bits an address has.
abbrev pub max_len_of : AddressFamily → ℕ
max_len_of Ipv4 = 32
max_len_of Ipv6 = 128

-- The text of an IPv6 address has a colon (RFC 4291 2.2), that of an IPv4 address has none.
abbrev pub HasColon : List ℕ → Type 0
HasColon text = (k : ℕ) × (k < length text) × (slice_index text k ≡ 58)
