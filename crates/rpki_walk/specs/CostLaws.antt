-- What the numbers say of one authority.
use Rattle.std.specs.Prelude.{◌≡◌, ◌↔◌, ℕ, true, List, Vec, length, map}
use Rattle.std.specs.Global.{Global}
use Rattle.rpki_rules.specs.Words.{Mem, NoRepeat}
use Rattle.rpki_rules.specs.World.{World}
use Rattle.rpki_walk.specs.Cost.{Chain, CountValue, IsAccepted, IsCost, count_of, goes_below}
use Rattle.rpki_walk.specs.declared.cost.count.Count.{Count}
use Rattle.rpki_walk.specs.declared.cost.count.Cost.TheVariants as Is

-- So many different accepted chains go on below the authority, at least.
pub record AtLeast (w : World) (uri : List ℕ) (n : ℕ) : Type 0 where
  pub chains : List Chain
  pub different : NoRepeat chains
  pub each : (c : Chain) → Mem chains c → IsAccepted w c × (goes_below uri c ≡ true)
  pub count : length chains ≡ n

-- Just so many do.
pub record Exactly (w : World) (uri : List ℕ) (n : ℕ) : Type 0 where
  pub chains : List Chain
  pub different : NoRepeat chains
  pub just : (c : Chain) → Mem chains c ↔ (IsAccepted w c × (goes_below uri c ≡ true))
  pub count : length chains ≡ n

-- Each number that is listed is reached, where the budget ended.
abbrev pub CountsAreReached : Type 0
CountsAreReached =
    (w : World) (budget : ℕ) (counts : Vec Count Global) → IsCost w budget (Is.AtLeast counts)
    → (x : CountValue) → Mem (map count_of counts.items) x → AtLeast w x.authority x.chains

-- Where it sufficed each is exact, and an authority that isn't listed has no chain below it.
abbrev pub CountsAreExact : Type 0
CountsAreExact =
    (w : World) (budget : ℕ) (counts : Vec Count Global) → IsCost w budget (Is.Exactly counts)
    → ((x : CountValue) → Mem (map count_of counts.items) x → Exactly w x.authority x.chains)
    × ((c : Chain) (uri : List ℕ) → IsAccepted w c → goes_below uri c ≡ true
    → (n : ℕ) × Mem (map count_of counts.items) (record { authority = uri; chains = n }))
