-- The components of object identifiers (X.690 8.19.3 to 8.19.5).
use Rattle.std.specs.Prelude.{◌≡◌, ℕ, ◌+◌, ◌-◌, ◌*◌, ◌/◌, ◌%◌, ◌<◌, ◌≤◌, min, nat_lt, if◌then◌else◌, List, [], ◌∷◌, ◌++◌, drop, All}
use Rattle.bcder.specs.Subidentifiers.{base128, InTurn, IsSubidentifier}
use Rattle.bcder.specs.declared.oid.component.Component.{Component}
use Rattle.bcder.specs.declared.oid.component.Place.{Place}
use Rattle.bcder.specs.declared.oid.component.Place.TheVariants.{First, Second, Later}

-- The first subidentifier is 40 X + Y, for the components X and Y: X is at most 2, and Y below 40 where X is 0 or 1 (8.19.4).
pub record IsRoot (n x y : ℕ) : Type 0 where
  pub sum : n ≡ 40 * x + y
  pub first : x ≤ 2
  pub second : x < 2 → y < 40

-- The components of subidentifiers: two of the first, and the others as they are.
abbrev pub AreComponents : List ℕ → List ℕ → Type 0
AreComponents [] cs = cs ≡ []
AreComponents (n ∷ ns) [] = ⊥
AreComponents (n ∷ ns) (x ∷ []) = ⊥
AreComponents (n ∷ ns) (x ∷ y ∷ cs) = IsRoot n x y × (cs ≡ ns)

-- The components that octets have: of whole subidentifiers, after which one may have begun that doesn't end.
pub record HasComponents (octets cs : List ℕ) : Type 0 where
  pub whole : List ℕ
  pub begun : List ℕ
  pub numbers : List ℕ
  pub split : octets ≡ whole ++ begun
  pub spelled : InTurn IsSubidentifier whole numbers
  pub unended : All (λ a. 128 ≤ a) begun
  pub components : AreComponents numbers cs

-- The subidentifiers that end within octets, after the number of one that has begun.
abbrev pub numbers_behind : ℕ → List ℕ → List ℕ
numbers_behind n [] = []
numbers_behind n (a ∷ v) = if nat_lt a 128 then (n * 128 + a % 128) ∷ numbers_behind 0 v else numbers_behind (n * 128 + a % 128) v

-- The components of a first subidentifier.
abbrev pub first_of : ℕ → ℕ
first_of n = min (n / 40) 2

abbrev pub second_of : ℕ → ℕ
second_of n = n - 40 * first_of n

abbrev pub split_first : List ℕ → List ℕ
split_first [] = []
split_first (n ∷ ns) = first_of n ∷ second_of n ∷ ns

-- The components that octets have, one by one.
abbrev pub components_of : List ℕ → List ℕ
components_of octets = split_first (numbers_behind 0 octets)

-- Those that are left where the next one stands at a place.
abbrev pub components_left : Place → List ℕ → List ℕ
components_left First octets = components_of octets
components_left Second octets = drop 1 (components_of octets)
components_left Later octets = numbers_behind 0 octets

-- The component at a place whose subidentifier is this number.
abbrev pub number_at : Place → ℕ → ℕ
number_at First n = first_of n
number_at Second n = second_of n
number_at Later n = n

-- The number of a component.
abbrev pub number_of : Component → ℕ
number_of c = number_at c.place (base128 c.octets.now)

-- What a subidentifier from 80 up has more than the component at a place after the first.
abbrev pub less_at : Place → ℕ
less_at First = 0
less_at Second = 80
less_at Later = 0
