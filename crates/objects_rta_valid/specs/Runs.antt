-- Runs of places, by a table that tells of each place where a path goes on from it.
use Rattle.std.specs.Prelude.{◌≡◌, ℕ, zero, suc, ◌+◌, ◌-◌, ◌<◌, ◌||◌, Bool, true, false, List, [], ◌∷◌, length, get_or}
use Rattle.objects_rta_valid.specs.Nodes.{Node}
use Rattle.objects_rta_valid.specs.Paths.{At}
use Rattle.objects_rta_valid.specs.OnPaths.{has}
use Rattle.objects_rta_valid.specs.Tables.{Goes, Picks}
use Rattle.objects_rta_valid.specs.declared.paths.lengths.Length.{Length}
use Rattle.objects_rta_valid.specs.declared.paths.lengths.Length.TheVariants.{Unknown, Underway, Of}
use Rattle.objects_rta_valid.specs.declared.paths.table.Found.{Found}
use Rattle.objects_rta_valid.specs.declared.paths.table.Found.TheVariants.{Nothing, One, Several}

-- What the table tells of a place, and the place after it.
abbrev pub on_at : List Found → ℕ → Found
on_at steps place = get_or steps place Nothing

abbrev pub onward : Found → ℕ → ℕ
onward Nothing place = place
onward (One next) place = next
onward Several place = place

-- So many places, from that one on.
abbrev pub walk : List Found → ℕ → ℕ → List ℕ
walk steps zero place = []
walk steps (suc n) place = place ∷ walk steps n (onward (on_at steps place) place)

-- The table is that of the certificates.
pub record IsGraph (nodes : List Node) (steps : List Found) : Type 0 where
  pub size : length steps ≡ length nodes
  pub each : (place : ℕ) (c : Node) → At nodes place c → Picks (Goes nodes c) (on_at steps place)

-- Whatever follows a place is one of the table.
abbrev pub AreInside : List Found → Type 0
AreInside steps = (place next : ℕ) → on_at steps place ≡ One next → next < length steps

-- From each place the table goes on at the next, and at the last it tells that end.
abbrev pub Linked : List Found → List ℕ → Found → Type 0
Linked steps [] end = ⊥
Linked steps (p ∷ []) end = on_at steps p ≡ end
Linked steps (p ∷ q ∷ places) end = (on_at steps p ≡ One q) × Linked steps (q ∷ places) end

-- No place twice.
abbrev pub AreApart : List ℕ → Type 0
AreApart [] = Unit {0}
AreApart (p ∷ places) = (has places p ≡ false) × AreApart places

-- There is nothing more, or what follows is among them already.
abbrev pub Ends : List ℕ → Found → Type 0
Ends places Nothing = Unit {0}
Ends places (One next) = has places next ≡ true
Ends places Several = ⊥

-- All places of a path, from its first on.
pub record IsRun (steps : List Found) (places : List ℕ) : Type 0 where
  pub end : Found
  pub linked : Linked steps places end
  pub apart : AreApart places
  pub ends : Ends places end

-- The path from that place, which has so many places.
pub record RunFrom (steps : List Found) (place n : ℕ) : Type 0 where
  pub behind : List ℕ
  pub run : IsRun steps (place ∷ behind)
  pub long : suc (length behind) ≡ n

-- The path from there comes to where more than one certificate follows.
pub record Forks (steps : List Found) (place : ℕ) : Type 0 where
  pub behind : List ℕ
  pub linked : Linked steps (place ∷ behind) Several
  pub apart : AreApart (place ∷ behind)

-- What is known of lengths: where one is told, it is that of the path from there, and all of that path are told.
abbrev pub length_at : List Length → ℕ → Length
length_at lengths place = get_or lengths place Unknown

abbrev pub is_known : Length → Bool
is_known Unknown = false
is_known (Underway at) = true
is_known (Of n) = true

abbrev pub known_at : List Length → ℕ → Bool
known_at lengths place = is_known (length_at lengths place)

abbrev pub Tells : List Found → ℕ → Length → Type 0
Tells steps place Unknown = Unit {0}
Tells steps place (Underway at) = ⊥
Tells steps place (Of n) = RunFrom steps place n

pub record AreMeasured (steps : List Found) (lengths : List Length) : Type 0 where
  pub size : length lengths ≡ length steps
  pub tells : (place : ℕ) → Tells steps place (length_at lengths place)
  pub closed :
      (p q : ℕ) → known_at lengths p ≡ true → on_at steps p ≡ One q → known_at lengths q ≡ true

-- Places that were followed for the first time: the length of the path from each, and of the whole path from the first.
pub record AreFresh (steps : List Found) (lengths : List Length) (first : ℕ) (places : List ℕ)
    (before behind : ℕ) : Type 0 where
  pub each :
      (k : ℕ) → k < length places → RunFrom steps (get_or places k 0) (behind + (before - k))
  pub whole : RunFrom steps first (behind + before)
  pub on :
      (p : ℕ) → has (first ∷ whole.behind) p ≡ true
      → (known_at lengths p || has places p) ≡ true
  pub off : (p : ℕ) → has places p ≡ true → has (first ∷ whole.behind) p ≡ true
  pub closed :
      (p q : ℕ) → (known_at lengths p || has places p) ≡ true → on_at steps p ≡ One q
      → (known_at lengths q || has places q) ≡ true

-- While places are followed, each has its number; the others have what they had.
pub record AreUnderway (old new : List Length) (places : List ℕ) : Type 0 where
  pub size : length new ≡ length old
  pub marked :
      (p : ℕ) → has places p ≡ true
      → (k : ℕ) × (k < length places) × (get_or places k 0 ≡ p)
      × (length_at new p ≡ Underway k)
  pub others : (p : ℕ) → has places p ≡ false → length_at new p ≡ length_at old p

-- The places have their lengths; the others have what they had.
pub record AreSet (old new : List Length) (places : List ℕ) (before behind : ℕ) : Type 0 where
  pub size : length new ≡ length old
  pub each :
      (p : ℕ) → has places p ≡ true
      → (k : ℕ) × (k < length places) × (get_or places k 0 ≡ p)
      × (length_at new p ≡ Of (behind + (before - k)))
  pub others : (p : ℕ) → has places p ≡ false → length_at new p ≡ length_at old p

-- The path from that place has so many places, and its places are told, too.
pub record IsMeasured (steps : List Found) (old new : List Length) (first n : ℕ) : Type 0 where
  pub measured : AreMeasured steps new
  pub path : RunFrom steps first n
  pub on : (p : ℕ) → known_at new p ≡ (known_at old p || has (first ∷ path.behind) p)
