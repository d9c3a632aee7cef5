-- Tables of certificates by key identifiers.
use Rattle.std.specs.Prelude.{◌≡◌, ◌≢◌, ℕ, Bool, true, false, cond, List, [], Option, Some, None, bytes_eq}
use Rattle.std.specs.BTreeMap.{get_by}
use Rattle.std.specs.BTreeSet.{BTreeSet, contains_by}
use Rattle.std.specs.Borrow.{Bor}
use Rattle.std.specs.Cmp.Lexicographic.{slice_cmp}
use Rattle.std.specs.Ordering.{nat_cmp}
use Rattle.std.specs.List.{list_any}
use Rattle.std.specs.Option.{unwrap_or}
use Rattle.objects_rta_valid.specs.Nodes.{Node, IsSelfSigned}
use Rattle.objects_rta_valid.specs.Keys.{IsOnceEach}
use Rattle.objects_rta_valid.specs.Paths.{At, Continues}
use Rattle.objects_rta_valid.specs.declared.paths.table.Found.{Found}
use Rattle.objects_rta_valid.specs.declared.paths.table.Found.TheVariants.{Nothing, One, Several}
use Rattle.objects_rta_valid.specs.declared.paths.table.Table.{Table}

-- What is found of places that P holds of: that there is none, the only one, or that there are several.
abbrev pub Picks : (ℕ → Type 0) → Found → Type 0
Picks P Nothing = (place : ℕ) → P place → ⊥
Picks P (One place) = P place × ((other : ℕ) → P other → other ≡ place)
Picks P Several = (a b : ℕ) × (a ≢ b) × P a × P b

-- At that place stands a certificate with that subject key identifier; an authority's, if only these are asked for.
pub record IsEntry (nodes : List Node) (issuers : Bool) (key : List ℕ) (place : ℕ) : Type 0 where
  pub node : Node
  pub at : At nodes place node
  pub subject : node.subject ≡ key
  pub issues : issuers ≡ true → node.issues ≡ true

-- What the table has at a key.
abbrev pub told : Table → List ℕ → Found
told table key = unwrap_or (get_by (λ k. slice_cmp nat_cmp key k.now) table.found) Nothing

-- The table of all certificates, or of authorities' alone.
abbrev pub IsTableOf : List Node → Bool → Table → Type 0
IsTableOf nodes issuers table = (key : List ℕ) → Picks (IsEntry nodes issuers key) (told table key)

-- One more place at a key.
abbrev pub one_more : Found → ℕ → Found
one_more Nothing place = One place
one_more (One other) place = Several
one_more Several place = Several

abbrev pub Adds : Table → Table → List ℕ → ℕ → Type 0
Adds old new key place =
    (k : List ℕ) → told new k ≡ cond (bytes_eq key k) (one_more (told old key) place) (told old k)

-- A path goes on from c at that place, whatever was seen.
abbrev pub Goes : List Node → Node → ℕ → Type 0
Goes nodes c place = (IsSelfSigned c → ⊥) × Continues nodes [] c place

-- What a table of authorities' certificates tells of those that a path goes on with from c.
abbrev pub above_in : Table → List ℕ → Option (List ℕ) → Found
above_in table subject None = Nothing
above_in table subject (Some key) = cond (bytes_eq key subject) Nothing (told table key)

-- At that place stands the only certificate with that subject key identifier.
abbrev pub IsFirst : List Node → List ℕ → ℕ → Type 0
IsFirst nodes sid place = Picks (IsEntry nodes false sid) (One place)

-- Whether a set of identifiers has one.
abbrev pub holds : BTreeSet (Bor (List ℕ)) → List ℕ → Bool
holds set key = contains_by (λ k. slice_cmp nat_cmp key k.now) set

-- The set of the identifiers of a list in which none occurs twice.
pub record IsSetOf (keys : List (List ℕ)) (set : BTreeSet (Bor (List ℕ))) : Type 0 where
  pub once : IsOnceEach keys
  pub same : (key : List ℕ) → holds set key ≡ list_any (bytes_eq key) keys
