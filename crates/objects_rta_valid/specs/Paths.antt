-- Paths from signers' certificates up, as lists of places in the list of all certificates that a document carries: one that is
-- carried twice has two places (draft-ietf-sidrops-rpki-rta; this project's profile).
use Rattle.std.specs.Prelude.{◌≡◌, ◌⊎◌, ℕ, ◌<◌, true, List, [], ◌∷◌, Some, slice_get, length, Contains, Any}
use Rattle.std.specs.List.{AllZip}
use Rattle.objects_rta_valid.specs.Nodes.{Node, IsBelow, IsSelfSigned}

-- x stands at that place, from 0 on.
abbrev pub At : {X : Type 0} → List X → ℕ → X → Type 0
At xs place x = slice_get xs place ≡ Some x

-- The certificate at that place is an authority's, c is below it, and the place is not among those seen.
pub record Continues (nodes : List Node) (seen : List ℕ) (c : Node) (place : ℕ) : Type 0 where
  pub parent : Node
  pub at : At nodes place parent
  pub issues : parent.issues ≡ true
  pub below : IsBelow c parent
  pub unseen : Contains seen place → ⊥

-- Places that follow c, after those seen: none where c is self-signed or no place continues, else one that does, and so on.
abbrev pub Follows : List Node → List ℕ → Node → List ℕ → Type 0
Follows nodes seen c [] = IsSelfSigned c ⊎ ((place : ℕ) → Continues nodes seen c place → ⊥)
Follows nodes seen c (place ∷ places) =
    (IsSelfSigned c → ⊥) × (next : Continues nodes seen c place)
    × Follows nodes (place ∷ seen) next.parent places

-- A path of the signer with that identifier: from a place of a certificate of that subject key identifier.
abbrev pub IsPath : List Node → List ℕ → List ℕ → Type 0
IsPath nodes sid [] = ⊥
IsPath nodes sid (place ∷ places) =
    (c : Node) × At nodes place c × (c.subject ≡ sid) × Follows nodes (place ∷ []) c places

-- It is a path of that signer, and there is no other.
pub record IsOnlyPath (nodes : List Node) (sid : List ℕ) (places : List ℕ) : Type 0 where
  pub is : IsPath nodes sid places
  pub only : (others : List ℕ) → IsPath nodes sid others → others ≡ places

-- The signer has no path, or more than one.
abbrev pub HasNoOnlyPath : List Node → List ℕ → Type 0
HasNoOnlyPath nodes sid = (places : List ℕ) → IsOnlyPath nodes sid places → ⊥

-- Some path has the place.
abbrev pub IsOn : List (List ℕ) → ℕ → Type 0
IsOn paths place = Any (λ path. Contains path place) paths

-- Each place below the count is on a path.
abbrev pub AreAllOn : List (List ℕ) → ℕ → Type 0
AreAllOn paths count = (place : ℕ) → place < count → IsOn paths place

-- The first place below the count that is on none.
pub record IsFirstOff (paths : List (List ℕ)) (count place : ℕ) : Type 0 where
  pub inside : place < count
  pub off : IsOn paths place → ⊥
  pub before : AreAllOn paths place

-- What is kept of paths: how many certificates there are, and the places of each path.
pub record PathsValue : Type 0 where
  pub count : ℕ
  pub paths : List (List ℕ)

-- Over these certificates, the only path of each of the signers, in their order.
pub record ArePaths (nodes : List Node) (sids : List (List ℕ)) (value : PathsValue) : Type 0 where
  pub all : value.count ≡ length nodes
  pub each : AllZip (IsOnlyPath nodes) sids value.paths

-- At the first place stands a certificate that isn't self-signed, at the second an authority's that it is below.
pub record IsStep (nodes : List Node) (below above : ℕ) : Type 0 where
  pub c : Node
  pub parent : Node
  pub at : At nodes below c
  pub at_parent : At nodes above parent
  pub open_end : IsSelfSigned c → ⊥
  pub issues : parent.issues ≡ true
  pub is_below : IsBelow c parent

-- So each place stands to the next.
abbrev pub AreSteps : List Node → List ℕ → Type 0
AreSteps nodes [] = Unit {0}
AreSteps nodes (place ∷ []) = Unit {0}
AreSteps nodes (place ∷ next ∷ places) =
    IsStep nodes place next × AreSteps nodes (next ∷ places)
