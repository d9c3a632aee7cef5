-- Which numbers make no prefix, and why.
use Rattle.std.specs.Prelude.{◌≡◌, ℕ, ◌%◌, ◌<◌, ◌≤◌, Option, Some, None, List, codes}
use Rattle.resources_ip_prefix.specs.declared.ip_addr.error.PrefixError.{PrefixError}
use Rattle.resources_ip_prefix.specs.declared.ip_addr.error.PrefixError.TheVariants.{LenOverflow, NonZeroHost}
use Rattle.resources_ip_prefix.specs.declared.ip_addr.error.MaxLenError.{MaxLenError}
use Rattle.resources_ip_prefix.specs.declared.ip_addr.error.MaxLenError.TheVariants.{Overflow, Underflow}
use Rattle.resources_ip_prefix.specs.AddrPrefixes.{Family, PrefixValue, width, span}

-- The length is above that of an address; or it isn't, and a host bit is set.
abbrev pub IsNoPrefix : Family → ℕ → ℕ → PrefixError → Type 0
IsNoPrefix f bits len LenOverflow = width f < len
IsNoPrefix f bits len NonZeroHost = (len ≤ width f) × ¬ (bits % span f len ≡ 0)

-- With host bits cleared, the length alone decides.
abbrev pub IsTooLong : Family → ℕ → PrefixError → Type 0
IsTooLong f len LenOverflow = width f < len
IsTooLong f len NonZeroHost = ⊥

-- The greatest length is above that of an address; or it isn't, and is below the prefix's.
abbrev pub IsNoMaxLen : PrefixValue → ℕ → MaxLenError → Type 0
IsNoMaxLen p n Overflow = width p.family < n
IsNoMaxLen p n Underflow = (n ≤ width p.family) × (n < p.len)

abbrev pub HasNoMaxLen : PrefixValue → Option ℕ → MaxLenError → Type 0
HasNoMaxLen p None e = ⊥
HasNoMaxLen p (Some n) e = IsNoMaxLen p n e

-- Why the numbers of a text make no prefix: a length above an address's; or no reason, as they aren't asked about.
abbrev pub TooLong : Family → ℕ → ℕ → PrefixError → Type 0
TooLong f bits len e = IsTooLong f len e

abbrev pub NoReason : Family → ℕ → ℕ → PrefixError → Type 0
NoReason f bits len e = ⊥

-- The texts that the errors print.
abbrev pub prefix_error_text : PrefixError → List ℕ
prefix_error_text LenOverflow = codes "prefix length exceeds the address"
prefix_error_text NonZeroHost = codes "host bits are set"

abbrev pub max_len_error_text : MaxLenError → List ℕ
max_len_error_text Overflow = codes "maximum length exceeds the address"
max_len_error_text Underflow = codes "maximum length is below the prefix length"
