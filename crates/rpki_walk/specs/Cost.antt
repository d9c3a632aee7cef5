-- How many accepted chains go on below each authority.
use Rattle.std.specs.Prelude.{◌≡◌, ◌↔◌, ◌≤◌, ℕ, Bool, List, [], ◌∷◌, length, map, filter, bytes_eq}
use Rattle.std.specs.Cmp.Lexicographic.{slice_cmp}
use Rattle.std.specs.List.{list_any}
use Rattle.std.specs.List.Sorted.{IsStrictlySortedBy}
use Rattle.std.specs.Ordering.{nat_cmp, ordering_then}
use Rattle.std.specs.declared.cmp.Ordering.{Ordering}
use Rattle.rpki_rules.specs.Words.{Mem, NoRepeat}
use Rattle.rpki_rules.specs.World.{World}
use Rattle.rpki_rules.specs.Points.{Link}
use Rattle.rpki_rules.specs.Chains.{last_of, Accepted}
use Rattle.rpki_walk.specs.declared.cost.count.Count.{Count}
use Rattle.rpki_walk.specs.declared.cost.count.Cost.{Cost}
use Rattle.rpki_walk.specs.declared.cost.count.Cost.TheVariants as Is

-- A chain of certificates: its locator's name, its trust anchor, and the certificates below that, the last of them first.
pub record Chain : Type 0 where
  pub locator : List ℕ
  pub anchor : Link
  pub below : List Link

abbrev pub IsAccepted : World → Chain → Type 0
IsAccepted w c = Accepted w c.locator c.anchor c.below

-- The lookup keys of all certificates of a chain but the last, the nearest to that first.
abbrev pub above : Link → List Link → List (List ℕ)
above a [] = []
above a (c ∷ cs) = (last_of a cs).uri ∷ above a cs

-- The chain goes on below the authority with that lookup key: it has its certificate, and not as the last.
abbrev pub goes_below : List ℕ → Chain → Bool
goes_below uri c = list_any (λ u. bytes_eq u uri) (above c.anchor c.below)

-- So many of the chains do.
abbrev pub how_many : List ℕ → List Chain → ℕ
how_many uri chains = length (filter (goes_below uri) chains)

-- An authority by its lookup key, and how many chains go on below it.
pub record CountValue : Type 0 where
  pub authority : List ℕ
  pub chains : ℕ

abbrev pub count_of : Count → CountValue
count_of c = record { authority = c.authority; chains = c.chains.0 }

-- The most first, then by lookup key, as octets.
abbrev pub count_cmp : CountValue → CountValue → Ordering
count_cmp x y =
    ordering_then (nat_cmp y.chains x.chains) (slice_cmp nat_cmp x.authority y.authority)

-- The chains are accepted and differ, and the list has each authority below which some of them go on, with their number.
pub record AreCounts (w : World) (chains : List Chain) (counts : List CountValue) : Type 0 where
  pub different : NoRepeat chains
  pub accepted : (c : Chain) → Mem chains c → IsAccepted w c
  pub counted : (x : CountValue)
      → Mem counts x ↔ ((1 ≤ x.chains) × (x.chains ≡ how_many x.authority chains))
  pub ascend : IsStrictlySortedBy count_cmp counts

-- All accepted chains were counted, which are no more than the budget; or as many as the budget has, and one more is
-- accepted.
abbrev pub IsCost : World → ℕ → Cost → Type 0
IsCost w budget (Is.Exactly counts) =
    (chains : List Chain) × AreCounts w chains (map count_of counts.items)
    × (length chains ≤ budget) × ((c : Chain) → IsAccepted w c → Mem chains c)
IsCost w budget (Is.AtLeast counts) =
    (chains : List Chain) × AreCounts w chains (map count_of counts.items)
    × (length chains ≡ budget) × (c : Chain) × IsAccepted w c × ¬ (Mem chains c)
