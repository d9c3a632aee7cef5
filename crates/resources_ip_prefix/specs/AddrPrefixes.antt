-- IP prefixes: the addresses whose first bits are those of one address (RFC 4632 3.1, RFC 4291 2.3).
use Rattle.std.specs.Prelude.{◌≡◌, ℕ, ◌+◌, ◌-◌, ◌*◌, ◌/◌, ◌%◌, ◌^◌, ◌<◌, ◌≤◌}
use Rattle.std.specs.Ordering.{nat_cmp, ordering_then}
use Rattle.std.specs.declared.cmp.Ordering.{Ordering}
use Rattle.std.specs.declared.cmp.Ordering.TheVariants.{Less, Equal, Greater}
use Rattle.std.specs.declared.net.ip_addr.IpAddr.{IpAddr}
use Rattle.std.specs.declared.net.ip_addr.IpAddr.TheVariants.{V4, V6}
use Rattle.std.specs.Net.Addr.{ipv4_bits, ipv6_bits}

pub data Family : Type 0 where
  Ipv4 : Family
  Ipv6 : Family

-- How many bits an address has (RFC 791 2.3, RFC 4291 2).
abbrev pub width : Family → ℕ
width Ipv4 = 32
width Ipv6 = 128

-- The family of an address, and the number that its bits write, the highest first.
abbrev pub family_of : IpAddr → Family
family_of (V4 a) = Ipv4
family_of (V6 a) = Ipv6

abbrev pub bits_of : IpAddr → ℕ
bits_of (V4 a) = ipv4_bits a
bits_of (V6 a) = ipv6_bits a

-- A family, the first address as a number, and how many bits all addresses share.
pub record PrefixValue : Type 0 where
  pub family : Family
  pub first : ℕ
  pub len : ℕ

-- How many addresses have the same first `len` bits.
abbrev pub span : Family → ℕ → ℕ
span f len = 2 ^ (width f - len)

-- The length is at most that of an address, and the bits after it, the host bits, are zeros.
pub record IsPrefix (p : PrefixValue) : Type 0 where
  pub fits : p.len ≤ width p.family
  pub within : p.first < 2 ^ width p.family
  pub no_host : p.first % span p.family p.len ≡ 0

-- The prefix of this length with this address: the address with its host bits cleared.
abbrev pub prefix_around : Family → ℕ → ℕ → PrefixValue
prefix_around f bits len = record { family = f; first = bits / span f len * span f len; len = len }

-- The last address, as a number.
abbrev pub last_of : PrefixValue → ℕ
last_of p = p.first + (span p.family p.len - 1)

-- The prefix has the address.
abbrev pub Has : PrefixValue → ℕ → Type 0
Has p n = (p.first ≤ n) × (n ≤ last_of p)

-- Both are of one family, and each address of the second is one of the first.
abbrev pub Covers : PrefixValue → PrefixValue → Type 0
Covers p q = (p.family ≡ q.family) × ((n : ℕ) → Has q n → Has p n)

abbrev pub family_cmp : Family → Family → Ordering
family_cmp Ipv4 Ipv4 = Equal
family_cmp Ipv4 Ipv6 = Less
family_cmp Ipv6 Ipv4 = Greater
family_cmp Ipv6 Ipv6 = Equal

-- By family, IPv4 first, then by the last address, then the longer prefix first.
abbrev pub prefix_cmp : PrefixValue → PrefixValue → Ordering
prefix_cmp p q = ordering_then (family_cmp p.family q.family)
    (ordering_then (nat_cmp (last_of p) (last_of q)) (nat_cmp q.len p.len))
