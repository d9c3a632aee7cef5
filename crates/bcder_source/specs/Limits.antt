-- Limits on sources.
use Rattle.std.specs.Prelude.{◌≡◌, ℕ, ◌<◌, ◌≤◌, min, List, [], length, Option, Some, None}
use Rattle.bcder_source.specs.Views.{View, limited}
use Rattle.bcder_source.specs.declared.limited.LimitedSource.{LimitedSource}

-- What may still be read of a limited source, by the rest of the source in it.
abbrev pub view : {S : Type 0} → (S → List ℕ) → LimitedSource S → View
view rest x = record { rest = rest x.source; limit = x.limit }

-- A limit that is no further than the old one; no limit leaves the old one as it is.
abbrev pub Narrows : Option ℕ → Option ℕ → Type 0
Narrows None old = Unit {0}
Narrows (Some n) None = Unit {0}
Narrows (Some n) (Some old) = n ≤ old

-- The limit then.
abbrev pub within : Option ℕ → Option ℕ → Option ℕ
within None old = old
within (Some n) old = Some n

-- How many octets lie at hand up to a limit.
abbrev pub at_hand : Option ℕ → ℕ → ℕ
at_hand None n = n
at_hand (Some l) n = min l n

-- Nothing may be read any more: the limit is reached or, where there is none, the source has ended.
abbrev pub IsSpent : Option ℕ → List ℕ → Type 0
IsSpent None rest = rest ≡ []
IsSpent (Some n) rest = n ≡ 0

-- The source ends before the limit.
abbrev pub IsShort : Option ℕ → List ℕ → Type 0
IsShort None rest = ⊥
IsShort (Some n) rest = length rest < n

-- Octets may be read, and the source has all of them up to the limit.
pub record HasAll (limit : Option ℕ) (rest : List ℕ) : Type 0 where
  pub whole : IsShort limit rest → ⊥
  pub some : 1 ≤ length (limited limit rest)
