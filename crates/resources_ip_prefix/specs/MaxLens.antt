-- Prefixes with a greatest length (RFC 9582 4.3.2.2).
use Rattle.std.specs.Prelude.{ℕ, ◌≤◌, Option, Some, None, min, max}
use Rattle.std.specs.Option.{option_cmp, option_map, unwrap_or}
use Rattle.std.specs.Ordering.{nat_cmp, ordering_then}
use Rattle.std.specs.declared.cmp.Ordering.{Ordering}
use Rattle.resources_ip_prefix.specs.AddrPrefixes.{PrefixValue, IsPrefix, width, prefix_cmp}

-- A prefix, and how long a prefix inside it may be, where that is given.
pub record MaxLenValue : Type 0 where
  pub prefix : PrefixValue
  pub max_len : Option ℕ

-- Where it is given, it is at least the prefix's length and at most that of an address.
abbrev pub IsMaxLenOf : PrefixValue → Option ℕ → Type 0
IsMaxLenOf p None = Unit {0}
IsMaxLenOf p (Some n) = (p.len ≤ n) × (n ≤ width p.family)

-- A prefix with such a greatest length.
pub record IsMaxLen (m : MaxLenValue) : Type 0 where
  pub prefix : IsPrefix m.prefix
  pub max_len : IsMaxLenOf m.prefix m.max_len

-- The greatest length that is given, or the prefix's own length.
abbrev pub resolved : MaxLenValue → ℕ
resolved m = unwrap_or m.max_len m.prefix.len

-- The nearest to what is given that is at least the prefix's length and at most that of an address.
abbrev pub saturated : PrefixValue → Option ℕ → MaxLenValue
saturated p o =
    record { prefix = p; max_len = option_map (λ n. max p.len (min n (width p.family))) o }

-- By prefix, and then by greatest length, none first.
abbrev pub max_len_cmp : MaxLenValue → MaxLenValue → Ordering
max_len_cmp m n =
    ordering_then (prefix_cmp m.prefix n.prefix) (option_cmp nat_cmp m.max_len n.max_len)
