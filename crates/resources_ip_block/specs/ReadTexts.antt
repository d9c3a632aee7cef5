-- Texts of ranges and blocks of addresses, as they are read.
use Rattle.std.specs.Prelude.{◌≡◌, ℕ, ◌<◌, ◌≤◌, ◌⊎◌, Result, MatchResult, List}
use Rattle.resources_ip_block.specs.resources_ip_prefix.Cuts.{LacksByte, IsCut}
use Rattle.resources_ip_block.specs.resources_chain.Sets.{Run}
use Rattle.resources_ip_prefix.specs.declared.addr.AddressFamily.{AddressFamily}
use Rattle.resources_ip_prefix.specs.declared.addr.AddressFamily.TheVariants.{Ipv4, Ipv6}
use Rattle.resources_ip_prefix.specs.declared.error.FromStrError.{FromStrError}
use Rattle.resources_ip_prefix.specs.declared.error.FromStrError.TheVariants as Cause
use Rattle.resources_ip_prefix.specs.Family.{max_len_of}
use Rattle.resources_ip_prefix.specs.Prefixes.{last_of, prefix_run}
use Rattle.resources_ip_prefix.specs.ReadTexts.{IsAddrText, IsNoAddr, WritesPrefix, IsNoPrefix, Shows}
use Rattle.resources_ip_block.specs.declared.block.IpBlock.{IpBlock}
use Rattle.resources_ip_block.specs.declared.range.AddressRange.{AddressRange}
use Rattle.resources_ip_block.specs.Block.{run_of_block}
use Rattle.resources_ip_block.specs.Range.{run_of_range}

-- The first address, a dash (45), and the last, which isn't before the first; after the family's bits it has ones.
pub record WritesRange (family : AddressFamily) (text : List ℕ) (r : Run) : Type 0 where
  pub min : List ℕ
  pub max : List ℕ
  pub end : ℕ
  pub cut : IsCut 45 text min max
  pub first : IsAddrText family min r.first
  pub last : IsAddrText family max end
  pub last_is : r.last ≡ last_of (max_len_of family) end
  pub ordered : r.first ≤ r.last

-- What is wrong with a text: there is no dash, one of the two is no address, or the last is before the first.
abbrev pub IsNoRange : AddressFamily → List ℕ → FromStrError → Type 0
IsNoRange family text Cause.MissingSeparator = LacksByte 45 text
IsNoRange family text Cause.Addr =
    (min max : List ℕ) × IsCut 45 text min max × (IsNoAddr family min ⊎ IsNoAddr family max)
IsNoRange family text Cause.BadRange =
    (min max : List ℕ) × (first end : ℕ) × IsCut 45 text min max × IsAddrText family min first
    × IsAddrText family max end
    × (last_of (max_len_of family) end < first)
IsNoRange family text Cause.PrefixLen = ⊥
IsNoRange family text Cause.FamilyMismatch = ⊥
IsNoRange family text Cause.BadBlocks = ⊥
IsNoRange family text Cause.Memory = ⊥

-- The answer is the range that the text writes; or it writes none, for that reason.
abbrev pub ReadsRange : AddressFamily → List ℕ → Result AddressRange FromStrError → Type 0
ReadsRange family text r =
    MatchResult r (λ a. WritesRange family text (run_of_range a))
    (λ e. IsNoRange family text e × ((run : Run) → ¬ (WritesRange family text run)))

-- A prefix, or where there is no slash (47) a range.
abbrev pub WritesBlock : AddressFamily → List ℕ → Run → Type 0
WritesBlock family text r =
    ((first len : ℕ) × WritesPrefix family text first len × (r ≡ prefix_run first len))
    ⊎ (LacksByte 47 text × WritesRange family text r)

abbrev pub IsNoBlock : AddressFamily → List ℕ → FromStrError → Type 0
IsNoBlock family text e =
    (¬ (LacksByte 47 text) × IsNoPrefix family text e)
    ⊎ (LacksByte 47 text × IsNoRange family text e)

abbrev pub ReadsBlock : AddressFamily → List ℕ → Result IpBlock FromStrError → Type 0
ReadsBlock family text r =
    MatchResult r (λ b. WritesBlock family text (run_of_block b))
    (λ e. IsNoBlock family text e × ((run : Run) → ¬ (WritesBlock family text run)))

-- Of either family: that of its colons.

-- The family of both ends of a range.
abbrev pub ShowsBoth : AddressFamily → List ℕ → Type 0
ShowsBoth family text =
    (min max : List ℕ) × IsCut 45 text min max × Shows family min × Shows family max

-- The two ends have different families.
abbrev pub ShowsTwo : List ℕ → Type 0
ShowsTwo text =
    (min max : List ℕ) × IsCut 45 text min max
    × ((Shows Ipv4 min × Shows Ipv6 max) ⊎ (Shows Ipv6 min × Shows Ipv4 max))

abbrev pub IsNoRangeOfAny : List ℕ → FromStrError → Type 0
IsNoRangeOfAny text Cause.FamilyMismatch = ShowsTwo text
IsNoRangeOfAny text Cause.MissingSeparator = LacksByte 45 text
IsNoRangeOfAny text Cause.Addr =
    (family : AddressFamily) × ShowsBoth family text × IsNoRange family text Cause.Addr
IsNoRangeOfAny text Cause.BadRange =
    (family : AddressFamily) × ShowsBoth family text × IsNoRange family text Cause.BadRange
IsNoRangeOfAny text Cause.PrefixLen = ⊥
IsNoRangeOfAny text Cause.BadBlocks = ⊥
IsNoRangeOfAny text Cause.Memory = ⊥

abbrev pub ReadsRangeOfAny : List ℕ → Result AddressRange FromStrError → Type 0
ReadsRangeOfAny text r =
    MatchResult r (λ a. (family : AddressFamily) × WritesRange family text (run_of_range a))
    (λ e. IsNoRangeOfAny text e × ((family : AddressFamily) (run : Run)
    → ¬ (WritesRange family text run)))

abbrev pub IsNoBlockOfAny : List ℕ → FromStrError → Type 0
IsNoBlockOfAny text e =
    (¬ (LacksByte 47 text) × ((family : AddressFamily) × Shows family text
    × IsNoPrefix family text e))
    ⊎ (LacksByte 47 text × IsNoRangeOfAny text e)

abbrev pub ReadsBlockOfAny : List ℕ → Result IpBlock FromStrError → Type 0
ReadsBlockOfAny text r =
    MatchResult r (λ b. (family : AddressFamily) × WritesBlock family text (run_of_block b))
    (λ e. IsNoBlockOfAny text e × ((family : AddressFamily) (run : Run)
    → ¬ (WritesBlock family text run)))
