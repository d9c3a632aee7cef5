-- Sets of resources of three kinds: AS numbers, and addresses of IPv4 and of IPv6.
use Rattle.std.specs.Prelude.{◌≡◌, ℕ, ◌⊎◌, ◌↔◌, List}
use Rattle.resources.specs.resources_chain.Sets.{Run, InRuns, IsRunsOf, InFirstOnly, IsInside}
use Rattle.resources.specs.resources_chain.Claims.{Choice}
pub use Rattle.resources.specs.resources_ip.WholeSets.{ListsWhole}
use Rattle.resources.specs.resources_chain.declared.choice.ResourcesChoice.TheVariants.{Inherit}

-- The maximal runs of each kind.
pub record Resources : Type 0 where
  pub asn : List Run
  pub ipv4 : List Run
  pub ipv6 : List Run

-- In each kind the set has the numbers that P holds of.
pub record AreRunsOf (asn ipv4 ipv6 : ℕ → Type 0) (set : Resources) : Type 0 where
  pub asns : IsRunsOf asn set.asn
  pub v4s : IsRunsOf ipv4 set.ipv4
  pub v6s : IsRunsOf ipv6 set.ipv6

-- In each kind the set has the numbers that P says of those of two sets.
abbrev pub Combines : (P : List Run → List Run → ℕ → Type 0) (one other set : Resources) → Type 0
Combines P one other set =
    AreRunsOf (P one.asn other.asn) (P one.ipv4 other.ipv4) (P one.ipv6 other.ipv6) set

-- There is no number.
abbrev pub IsNone : List Run → Type 0
IsNone runs = (n : ℕ) → ¬ (InRuns runs n)

-- There is no number of any kind.
abbrev pub HasNone : Resources → Type 0
HasNone set = IsNone set.asn × IsNone set.ipv4 × IsNone set.ipv6

-- In each kind all numbers of the first set are in the second.
abbrev pub AreInside : Resources → Resources → Type 0
AreInside inner outer =
    IsInside inner.asn outer.asn × IsInside inner.ipv4 outer.ipv4 × IsInside inner.ipv6 outer.ipv6

-- The sets have the same numbers.
abbrev pub AreSame : List Run → List Run → Type 0
AreSame one other = (n : ℕ) → InRuns one n ↔ InRuns other n

-- In each kind the sets have the same numbers.
abbrev pub HaveSame : Resources → Resources → Type 0
HaveSame one other =
    AreSame one.asn other.asn × AreSame one.ipv4 other.ipv4 × AreSame one.ipv6 other.ipv6

-- What a set has more than another, and what it lacks.
pub record Changes : Type 0 where
  pub added : Resources
  pub removed : Resources

pub record AreChanges (now before : Resources) (changes : Changes) : Type 0 where
  pub more : Combines InFirstOnly now before changes.added
  pub less : Combines InFirstOnly before now changes.removed

-- Some kind is inherited.
abbrev pub SomeInherit : Choice → Choice → Choice → Type 0
SomeInherit asn ipv4 ipv6 = (asn ≡ Inherit) ⊎ (ipv4 ≡ Inherit) ⊎ (ipv6 ≡ Inherit)
