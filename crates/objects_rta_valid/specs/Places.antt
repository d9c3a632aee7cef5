-- Places on paths: the first of each path, the last, and each two that are neighbours, the lower one first.
use Rattle.std.specs.Prelude.{◌≡◌, ◌↔◌, ℕ, ◌<◌, List, [], ◌∷◌, Option, Some, None, length, set, slice_get}
use Rattle.std.specs.List.{flat_map}
use Rattle.certs_verify.specs.certs_basics.Lists.{Mem}

-- Something stands at the place, and it is P.
pub record Stands {X : Type 0} (xs : List X) (place : ℕ) (P : X → Type 0) : Type 0 where
  pub one : X
  pub at : slice_get xs place ≡ Some one
  pub is : P one

-- The first place of a path, as a list of one; and of each path.
abbrev pub first_of : List ℕ → List ℕ
first_of [] = []
first_of (place ∷ path) = place ∷ []

abbrev pub firsts : List (List ℕ) → List ℕ
firsts = flat_map first_of

-- The last place of a path, and of each path.
abbrev pub last_from : ℕ → List ℕ → ℕ
last_from place [] = place
last_from place (next ∷ path) = last_from next path

abbrev pub last_of : List ℕ → List ℕ
last_of [] = []
last_of (place ∷ path) = last_from place path ∷ []

abbrev pub lasts : List (List ℕ) → List ℕ
lasts = flat_map last_of

-- Each two neighbours of a path, the lower one first; and those of each path.
abbrev pub pairs_from : ℕ → List ℕ → List (ℕ × ℕ)
pairs_from place [] = []
pairs_from place (next ∷ path) = (place, next) ∷ pairs_from next path

abbrev pub pairs_of : List ℕ → List (ℕ × ℕ)
pairs_of [] = []
pairs_of (place ∷ path) = pairs_from place path

abbrev pub pairs : List (List ℕ) → List (ℕ × ℕ)
pairs = flat_map pairs_of

-- Behind each place stands one place at most.
abbrev pub AreFunctional : List (ℕ × ℕ) → Type 0
AreFunctional ps = (a b c : ℕ) → Mem ps (a, b) → Mem ps (a, c) → b ≡ c

-- Each pair begins below the count.
abbrev pub BeginBelow : ℕ → List (ℕ × ℕ) → Type 0
BeginBelow count ps = (a b : ℕ) → Mem ps (a, b) → a < count

-- By place, what stands behind it.
pub record AreLinks (ps : List (ℕ × ℕ)) (count : ℕ) (links : List (Option ℕ)) : Type 0 where
  pub long : length links ≡ count
  pub same : (a b : ℕ) → (slice_get links a ≡ Some (Some b)) ↔ Mem ps (a, b)

-- The table once each pair is written into it.
abbrev pub linked : List (Option ℕ) → List (ℕ × ℕ) → List (Option ℕ)
linked links [] = links
linked links (p ∷ ps) = linked (set links p.0 (Some p.1)) ps

-- The pair of a place and of what stands behind it, if anything does.
abbrev pub link_pair : ℕ → Option ℕ → List (ℕ × ℕ)
link_pair place None = []
link_pair place (Some next) = (place, next) ∷ []

-- The pairs of a table, of the places below the bound.
abbrev pub ArePairsTo : List (Option ℕ) → ℕ → List (ℕ × ℕ) → Type 0
ArePairsTo links bound ps =
    (a b : ℕ) → Mem ps (a, b) ↔ ((a < bound) × (slice_get links a ≡ Some (Some b)))

-- Both lists have the same members.
abbrev pub HaveSame : {X : Type 0} → List X → List X → Type 0
HaveSame {X} xs ys = (x : X) → Mem xs x ↔ Mem ys x
