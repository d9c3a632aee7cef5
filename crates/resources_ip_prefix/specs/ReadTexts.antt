-- Texts of addresses and prefixes of a family, as they are read.
use Rattle.std.specs.Prelude.{◌≡◌, ℕ, ◌*◌, ◌^◌, ◌≤◌, Result, MatchResult, List}
use Rattle.std.specs.Net.Addr.{ipv4_bits, ipv6_bits}
use Rattle.std.specs.Net.Grammar.{IsIpv4Text, IsIpv6Text}
use Rattle.std.specs.declared.net.ipv4_addr.Ipv4Addr.{Ipv4Addr}
use Rattle.std.specs.declared.net.ipv6_addr.Ipv6Addr.{Ipv6Addr}
use Rattle.resources_ip_prefix.specs.Cuts.{LacksByte, IsCut, IsLenText}
use Rattle.resources_ip_prefix.specs.declared.addr.AddressFamily.{AddressFamily}
use Rattle.resources_ip_prefix.specs.declared.addr.AddressFamily.TheVariants.{Ipv4, Ipv6}
use Rattle.resources_ip_prefix.specs.declared.prefix.Prefix.{Prefix}
use Rattle.resources_ip_prefix.specs.declared.error.FromStrError.{FromStrError}
use Rattle.resources_ip_prefix.specs.declared.error.FromStrError.TheVariants as Cause
use Rattle.resources_ip_prefix.specs.Address.{bits_of}
use Rattle.resources_ip_prefix.specs.Family.{max_len_of, HasColon}
use Rattle.resources_ip_prefix.specs.Prefix.{prefix_addr, prefix_len}
use Rattle.resources_ip_prefix.specs.Prefixes.{first_of}

-- The text writes the address of the family that has these 128 bits: of IPv4 its 32, then zeros (RFC 3779 2.1.1).
abbrev pub IsAddrText : AddressFamily → List ℕ → ℕ → Type 0
IsAddrText Ipv4 text n = (ip : Ipv4Addr) × IsIpv4Text text ip × (n ≡ ipv4_bits ip * 2 ^ 96)
IsAddrText Ipv6 text n = (ip : Ipv6Addr) × IsIpv6Text text ip × (n ≡ ipv6_bits ip)

abbrev pub IsNoAddr : AddressFamily → List ℕ → Type 0
IsNoAddr family text = (n : ℕ) → ¬ (IsAddrText family text n)

-- A length that addresses of the family have, in decimal digits.
abbrev pub IsLengthText : AddressFamily → List ℕ → ℕ → Type 0
IsLengthText family text len = IsLenText text len × (len ≤ max_len_of family)

-- An address, a slash (47) and a length: the prefix is that of the address's first bits, whatever the others are.
pub record WritesPrefix (family : AddressFamily) (text : List ℕ) (first len : ℕ) : Type 0 where
  pub address : List ℕ
  pub digits : List ℕ
  pub bits : ℕ
  pub cut : IsCut 47 text address digits
  pub addr : IsAddrText family address bits
  pub length : IsLengthText family digits len
  pub first_is : first ≡ first_of len bits

-- What is wrong with a text: there is no slash, what stands before it is no address, or what stands after it no length.
abbrev pub IsNoPrefix : AddressFamily → List ℕ → FromStrError → Type 0
IsNoPrefix family text Cause.MissingSeparator = LacksByte 47 text
IsNoPrefix family text Cause.Addr =
    (address digits : List ℕ) × IsCut 47 text address digits × IsNoAddr family address
IsNoPrefix family text Cause.PrefixLen =
    (address digits : List ℕ) × (bits : ℕ) × IsCut 47 text address digits
    × IsAddrText family address bits
    × ((len : ℕ) → ¬ (IsLengthText family digits len))
IsNoPrefix family text Cause.FamilyMismatch = ⊥
IsNoPrefix family text Cause.BadBlocks = ⊥
IsNoPrefix family text Cause.BadRange = ⊥
IsNoPrefix family text Cause.Memory = ⊥

-- The answer is the prefix that the text writes; or it writes none, for that reason.
abbrev pub ReadsPrefix : AddressFamily → List ℕ → Result Prefix FromStrError → Type 0
ReadsPrefix family text r =
    MatchResult r (λ p. WritesPrefix family text (bits_of (prefix_addr p)) (prefix_len p))
    (λ e. IsNoPrefix family text e × ((first len : ℕ) → ¬ (WritesPrefix family text first len)))

-- The family that a text has by its bytes: IPv6 where there is a colon, else IPv4.
abbrev pub Shows : AddressFamily → List ℕ → Type 0
Shows Ipv4 text = ¬ (HasColon text)
Shows Ipv6 text = HasColon text
