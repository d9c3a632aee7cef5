-- Prefixes of either family as runs of numbers of 128 bits.
use Rattle.std.specs.Prelude.{◌≡◌, ℕ, ◌*◌, ◌^◌}
use Rattle.resources_chain.specs.Sets.{Run}
use Rattle.resources_ip_prefix.specs.AddrPrefixes.{Family, Ipv4, Ipv6, PrefixValue, IsPrefix}
use Rattle.resources_ip_prefix.specs.declared.addr.AddressFamily.{AddressFamily}
use Rattle.resources_ip_prefix.specs.declared.addr.AddressFamily.TheVariants as Of
use Rattle.resources_ip_prefix.specs.Prefixes.{prefix_run}

-- The first of the numbers of 128 bits that stand for an address: of an IPv4 one those that begin with its 32 bits
-- (RFC 3779 2.1.1).
abbrev pub widened : Family → ℕ → ℕ
widened Ipv4 n = n * 2 ^ 96
widened Ipv6 n = n

-- The numbers that stand for the addresses of a prefix.
abbrev pub wide_run : PrefixValue → Run
wide_run p = prefix_run (widened p.family p.first) p.len

abbrev pub family_in : AddressFamily → Family
family_in Of.Ipv4 = Ipv4
family_in Of.Ipv6 = Ipv6

-- The prefix of the family of this length whose first address is given by this first number.
pub record IsOfFamily (family : Family) (first len : ℕ) (p : PrefixValue) : Type 0 where
  pub is_prefix : IsPrefix p
  pub family_is : p.family ≡ family
  pub first_is : widened p.family p.first ≡ first
  pub len_is : p.len ≡ len
