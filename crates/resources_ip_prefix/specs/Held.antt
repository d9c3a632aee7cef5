-- How a prefix is held in memory.
use Rattle.std.specs.Prelude.{◌≡◌, refl}
use Rattle.resources_ip_prefix.specs.AddrPrefixes.{Family, Ipv4, Ipv6, PrefixValue}
use Rattle.resources_ip_prefix.specs.declared.ip_addr.prefix.Kind.{Kind}
use Rattle.resources_ip_prefix.specs.declared.ip_addr.prefix.Kind.TheVariants.{V4, V6}
use Rattle.resources_ip_prefix.specs.declared.ip_addr.prefix.Prefix.TheInside.{Inside}

abbrev pub family_in : Kind → Family
family_in V4 = Ipv4
family_in V6 = Ipv6

abbrev pub kind_as : Family → Kind
kind_as Ipv4 = V4
kind_as Ipv6 = V6

kind_as_in : (k : Kind) → kind_as (family_in k) ≡ k
kind_as_in V4 = refl
kind_as_in V6 = refl

abbrev pub prefix_in : Inside → PrefixValue
prefix_in a = record { family = family_in a.kind; first = a.first; len = a.len }

abbrev pub held_as : PrefixValue → Inside
held_as p = record { kind = kind_as p.family; first = p.first; len = p.len }

pub held_as_in : (a : Inside) → held_as (prefix_in a) ≡ a
held_as_in a = λ i. record { kind = kind_as_in a.kind i; first = a.first; len = a.len }
