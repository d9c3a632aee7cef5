-- Addresses that know their family.
use Rattle.std.specs.Prelude.{ℕ, ◌/◌, ◌^◌, List, ◌++◌, map}
use Rattle.objects_payload.specs.resources_ip_prefix.MaxLens.{MaxLenValue, resolved}
use Rattle.objects_payload.specs.resources_asn.Origins.{OriginValue}
use Rattle.objects_payload.specs.resources_ip_prefix.declared.addr.AddressFamily.{AddressFamily}
use Rattle.objects_payload.specs.resources_ip_prefix.declared.addr.AddressFamily.TheVariants as Of
use Rattle.objects_payload.specs.resources_ip_prefix.Wide.{family_in}
use Rattle.objects_payload.specs.Roas.{RoaAddress}

-- The first address by its own bits: of IPv4 these are the first 32 of 128 (RFC 3779 2.1.1).
abbrev pub narrowed : AddressFamily → ℕ → ℕ
narrowed Of.Ipv4 n = n / 2 ^ 96
narrowed Of.Ipv6 n = n

-- An address as one of the family.
abbrev pub friendly : AddressFamily → RoaAddress → MaxLenValue
friendly family a = record {
  prefix = record { family = family_in family; first = narrowed family a.addr; len = a.len };
  max_len = a.max_len;
}

-- Those of IPv4, and then those of IPv6.
abbrev pub friends : List RoaAddress → List RoaAddress → List MaxLenValue
friends v4 v6 = map (friendly Of.Ipv4) v4 ++ map (friendly Of.Ipv6) v6

-- The prefix with its greatest length, its own where none is given, and the AS number (RFC 9582 4.3.2).
abbrev pub origin_by : ℕ → MaxLenValue → OriginValue
origin_by asn m = record { prefix = m.prefix; max_len = resolved m; asn = asn }
