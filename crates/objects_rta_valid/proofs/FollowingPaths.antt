-- What following a path keeps.
use Rattle.std.proofs.Common.{◌≡◌, ℕ, ◌<◌, true, false, List, [], ◌∷◌, ◌++◌, length, sym, subst}
use Rattle.objects_rta_valid.specs.Nodes.{Node}
use Rattle.objects_rta_valid.specs.Paths.{At, HasNoOnlyPath, IsOnlyPath}
use Rattle.objects_rta_valid.specs.OnPaths.{has}
use Rattle.objects_rta_valid.specs.Tables.{Goes, IsFirst, Picks}
use Rattle.objects_rta_valid.specs.declared.paths.table.Found.TheVariants.{Nothing, One, Several}
use Rattle.objects_rta_valid.proofs.Fronts.{Front, front_closed, front_end, front_first, front_forks, front_next}
use Rattle.objects_rta_valid.proofs.Members.{at_inside}

-- With that place the places are a front of the signer's paths.
pub record Stands (nodes : List Node) (sid : List ℕ) (path : List ℕ) (place : ℕ) : Type 0 where
  pub c : Node
  pub at : At nodes place c
  pub front : Front nodes sid (path ++ place ∷ []) c

pub stands_first : (nodes : List Node) (sid : List ℕ) (first : ℕ) → IsFirst nodes sid first → Stands nodes sid [] first
stands_first nodes sid first f = record { c = f.0.node; at = f.0.at; front = front_first nodes sid first f }

module _ (nodes : List Node) (sid : List ℕ) (path : List ℕ) (place : ℕ) (s : Stands nodes sid path place) where
  module _ (whole : List ℕ) (is : whole ≡ path ++ place ∷ []) where
    front_here : Front nodes sid whole s.c
    front_here = subst (λ (ps : List ℕ). Front nodes sid ps s.c) (sym is) s.front

    pub stands_end : Picks (Goes nodes s.c) Nothing → IsOnlyPath nodes sid whole
    stands_end h = front_end nodes sid whole s.c front_here h

    pub stands_closed : (next : ℕ) → Picks (Goes nodes s.c) (One next) → has whole next ≡ true → IsOnlyPath nodes sid whole
    stands_closed next h old = front_closed nodes sid whole s.c front_here next h old

    pub stands_forks : Picks (Goes nodes s.c) Several → HasNoOnlyPath nodes sid
    stands_forks h = front_forks nodes sid whole s.c front_here h

    pub stands_next : (next : ℕ) → Picks (Goes nodes s.c) (One next) → has whole next ≡ false → Stands nodes sid whole next
    stands_next next h new =
        record { c = h.0.1.parent; at = h.0.1.at; front = front_next nodes sid whole s.c front_here next h.0.1.parent h new h.0.1.at }

-- The place that a path goes on at is one.
pub picks_inside : (nodes : List Node) (c : Node) (next : ℕ) → Picks (Goes nodes c) (One next) → next < length nodes
picks_inside nodes c next h = at_inside nodes next h.0.1.parent h.0.1.at
