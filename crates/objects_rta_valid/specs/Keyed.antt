-- Places of key identifiers in a list of them.
use Rattle.std.specs.Prelude.{◌≡◌, ℕ, ◌<◌, ◌++◌, List, [], ◌∷◌, Option, Some, None, cond, length, bytes_eq, get_or, slice_get}
use Rattle.std.specs.BTreeMap.{get_by}
use Rattle.std.specs.Cmp.Lexicographic.{slice_cmp}
use Rattle.std.specs.Ordering.{nat_cmp}
use Rattle.objects_rta_valid.specs.declared.keyed.KeyPlaces.{KeyPlaces}

-- The key stands at that place.
abbrev pub KeyAt : List (List ℕ) → List ℕ → ℕ → Type 0
KeyAt keys key place = slice_get keys place ≡ Some key

-- The last place of the key below the bound, or that there is none.
abbrev pub IsLast : List (List ℕ) → List ℕ → ℕ → Option ℕ → Type 0
IsLast keys key bound None = (place : ℕ) → place < bound → KeyAt keys key place → ⊥
IsLast keys key bound (Some last) =
    (last < bound) × KeyAt keys key last
    × ((place : ℕ) → last < place → place < bound → KeyAt keys key place → ⊥)

-- What the table has at a key.
abbrev pub last_place : KeyPlaces → List ℕ → Option ℕ
last_place table key = get_by (λ k. slice_cmp nat_cmp key k.now) table.last

-- The table tells of each key its last place below the bound, and of each place the one before it with the same key.
pub record IsKeyedTo (keys : List (List ℕ)) (bound : ℕ) (table : KeyPlaces) : Type 0 where
  pub long : length table.before.items ≡ bound
  pub last : (key : List ℕ) → IsLast keys key bound (last_place table key)
  pub before :
      (place : ℕ) (key : List ℕ) → place < bound → KeyAt keys key place
      → IsLast keys key place (get_or table.before.items place None)

abbrev pub IsKeyed : List (List ℕ) → KeyPlaces → Type 0
IsKeyed keys table = IsKeyedTo keys (length keys) table

-- One more place of a key, behind all others.
pub record Adds (old new : KeyPlaces) (key : List ℕ) (place : ℕ) : Type 0 where
  pub told :
      (k : List ℕ) → last_place new k ≡ cond (bytes_eq key k) (Some place) (last_place old k)
  pub behind : new.before.items ≡ old.before.items ++ last_place old key ∷ []

-- The table has a place of the key.
abbrev pub HasPlace : KeyPlaces → List ℕ → Type 0
HasPlace table key = (place : ℕ) × (last_place table key ≡ Some place)
