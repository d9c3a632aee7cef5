-- Texts of prefixes: an address, a slash (47) and the length (RFC 4632 3.1, RFC 4291 2.3).
use Rattle.std.specs.Prelude.{◌≡◌, ℕ, ◌<◌, ◌≤◌, Result, MatchResult, List, [], ◌++◌, length, codes, decimal}
use Rattle.std.specs.Int.{w32, w128, to_be_bytes}
use Rattle.std.specs.Net.Addr.{segments_of}
use Rattle.std.specs.Net.Grammar.{IsIpText}
use Rattle.std.specs.Net.Text.{ipv4_text, ipv6_text}
use Rattle.std.specs.declared.net.ip_addr.IpAddr.{IpAddr}
use Rattle.resources_ip_prefix.specs.declared.ip_addr.error.PrefixError.{PrefixError}
use Rattle.resources_ip_prefix.specs.declared.ip_addr.error.ParsePrefixError.{ParsePrefixError}
use Rattle.resources_ip_prefix.specs.declared.ip_addr.error.ParsePrefixError.TheVariants.{Empty, MissingLen, InvalidAddr, InvalidLen, InvalidPrefix}
use Rattle.resources_ip_prefix.specs.AddrPrefixes.{Family, Ipv4, Ipv6, PrefixValue, IsPrefix, width, family_of, bits_of, prefix_around}
use Rattle.resources_ip_prefix.specs.Cuts.{LacksByte, IsCut, IsLenText}

-- The text writes an address of the family with these bits, a slash and the length.
pub record IsWritten (text : List ℕ) (f : Family) (bits len : ℕ) : Type 0 where
  pub address : List ℕ
  pub digits : List ℕ
  pub addr : IpAddr
  pub cut : IsCut 47 text address digits
  pub address_is : IsIpText address addr
  pub family_is : family_of addr ≡ f
  pub bits_are : bits_of addr ≡ bits
  pub length_is : IsLenText digits len

-- The text writes the prefix.
pub record IsPrefixText (text : List ℕ) (p : PrefixValue) : Type 0 where
  pub written : IsWritten text p.family p.first p.len
  pub prefix : IsPrefix p

-- The text writes some address of the prefix and its length.
pub record IsRelaxedText (text : List ℕ) (p : PrefixValue) : Type 0 where
  pub bits : ℕ
  pub written : IsWritten text p.family bits p.len
  pub fits : p.len ≤ width p.family
  pub value : p ≡ prefix_around p.family bits p.len

-- What is wrong with a text; where it writes an address and a length, `NoPrefix` says what is wrong with these.
abbrev pub IsUnreadable : (Family → ℕ → ℕ → PrefixError → Type 0) → List ℕ → ParsePrefixError
    → Type 0
IsUnreadable NoPrefix text Empty = text ≡ []
IsUnreadable NoPrefix text MissingLen = (0 < length text) × LacksByte 47 text
IsUnreadable NoPrefix text (InvalidAddr _) =
    (address digits : List ℕ) × IsCut 47 text address digits
    × ((a : IpAddr) → ¬ (IsIpText address a))
IsUnreadable NoPrefix text (InvalidLen _) =
    (address digits : List ℕ) × (a : IpAddr) × IsCut 47 text address digits × IsIpText address a
    × ((n : ℕ) → ¬ (IsLenText digits n))
IsUnreadable NoPrefix text (InvalidPrefix e) =
    (f : Family) × (bits len : ℕ) × IsWritten text f bits len × NoPrefix f bits len e

-- The answer is what the text writes; or it writes nothing, for the reason given.
abbrev pub Reads : (List ℕ → PrefixValue → Type 0) → (Family → ℕ → ℕ → PrefixError → Type 0)
    → List ℕ → Result PrefixValue ParsePrefixError → Type 0
Reads Writes NoPrefix text r =
    MatchResult r (Writes text) (λ e. IsUnreadable NoPrefix text e
    × ((p : PrefixValue) → ¬ (Writes text p)))

-- An address as it is printed (RFC 5952 for IPv6).
abbrev pub address_text : Family → ℕ → List ℕ
address_text Ipv4 bits = ipv4_text (to_be_bytes w32 bits)
address_text Ipv6 bits = ipv6_text (segments_of (to_be_bytes w128 bits))

-- A prefix as it is printed.
abbrev pub prefix_text : PrefixValue → List ℕ
prefix_text p = address_text p.family p.first ++ (codes "/" ++ decimal p.len)
