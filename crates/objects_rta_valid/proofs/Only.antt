-- Runs of the table are the only paths, and where it forks there is none.
use Rattle.std.proofs.Common.{◌≡◌, ◌⊎◌, ℕ, ◌+◌, ◌<◌, ◌≤◌, true, false, nat_eq, List, [], ◌∷◌, ◌++◌, length, get_or, Some, None, slice_get, append_assoc, inl, inr, refl, sym, ap, subst, ◌∙◌, arith}
use Rattle.std.proofs.lemmas.Bool.{both_ways, cases_eq, ne_eqb, or_from}
use Rattle.std.proofs.lemmas.List.{get_or_append_left, get_or_past}
use Rattle.std.proofs.lemmas.Option.{get_or_from_slice_get, slice_get_cases}
use Rattle.std.proofs.Math.Seq.{get_or-append_seam}
use Rattle.objects_rta_valid.specs.Nodes.{Node}
use Rattle.objects_rta_valid.specs.Paths.{At, HasNoOnlyPath, IsOnlyPath}
use Rattle.objects_rta_valid.specs.OnPaths.{has}
use Rattle.objects_rta_valid.specs.Runs.{AreApart, AreInside, Ends, Forks, IsGraph, Linked, RunFrom, on_at, walk}
use Rattle.objects_rta_valid.specs.Tables.{Goes, IsEntry, IsFirst, IsTableOf, Picks, above_in}
use Rattle.objects_rta_valid.specs.declared.paths.table.Found.{Found}
use Rattle.objects_rta_valid.specs.declared.paths.table.Found.TheVariants.{Nothing, One, Several}
use Rattle.objects_rta_valid.specs.declared.paths.table.Table.{Table}
use Rattle.objects_rta_valid.proofs.Apart.{has_append, has_behind, has_head}
use Rattle.objects_rta_valid.proofs.FollowingPaths.{Stands, picks_inside, stands_closed, stands_end, stands_first, stands_forks, stands_next}
use Rattle.objects_rta_valid.proofs.Fronts.{none_first, several_first}
use Rattle.objects_rta_valid.proofs.Members.{at_inside}
use Rattle.objects_rta_valid.proofs.Picking.{above_picks}
use Rattle.objects_rta_valid.proofs.Running.{linked_walk}

-- One certificate more of the table.
pub graph_more : (nodes : List Node) (steps : List Found) (i : ℕ) (f : Found) (d : Node) (table : Table) → IsTableOf nodes true table → length steps ≡ i → f ≡ above_in table (get_or nodes i d).subject (get_or nodes i d).authority → ((place : ℕ) (c : Node) → place < i → At nodes place c → Picks (Goes nodes c) (on_at steps place)) → (place : ℕ) (c : Node) → place < i + 1 → At nodes place c → Picks (Goes nodes c) (on_at (steps ++ f ∷ []) place)
graph_more nodes steps i f d table is size e before place c l at = go (cases_eq place i)
  where
    go : (place ≡ i) ⊎ (place ≡ i → ⊥) → Picks (Goes nodes c) (on_at (steps ++ f ∷ []) place)
    go (inl same) =
        let node : get_or nodes i d ≡ c = get_or_from_slice_get nodes i c d (subst (λ (x : ℕ). At nodes x c) same at) in
        let told : above_in table c.subject c.authority ≡ f = ap (λ (n : Node). above_in table n.subject n.authority) (sym node) ∙ sym e in
        let here : on_at (steps ++ f ∷ []) place ≡ f = ap (λ (x : ℕ). get_or (steps ++ f ∷ []) x Nothing) (same ∙ sym size) ∙ get_or-append_seam steps f [] Nothing in
        subst (λ (x : Found). Picks (Goes nodes c) x) (told ∙ sym here) (above_picks nodes table c is)
    go (inr apart) =
        let kept = get_or_append_left steps (f ∷ []) Nothing place (omega arith) in
        subst (λ (x : Found). Picks (Goes nodes c) x) (sym kept) (before place c (omega arith) at)

-- Whatever follows a place is that of a certificate.
pub graph_inside : (nodes : List Node) (steps : List Found) → IsGraph nodes steps → AreInside steps
graph_inside nodes steps graph place next o = go (slice_get_cases nodes place).1
  where
    go : ((x : Node) × (place < length nodes) × (slice_get nodes place ≡ Some x) × (get_or nodes place x ≡ x)) ⊎ ((length nodes ≤ place) × (slice_get nodes place ≡ None)) → next < length steps
    go (inl h) =
        let size = graph.size in
        let l : next < length nodes = picks_inside nodes h.0 next (subst (λ (f : Found). Picks (Goes nodes h.0) f) o (graph.each place h.0 h.2)) in
        omega arith
    go (inr h) =
        let size = graph.size in
        let past : length nodes ≤ place = h.0 in
        let none : on_at steps place ≡ Nothing = get_or_past steps place Nothing (omega arith) in
        let both : Nothing ≡ One next = sym none ∙ o in
        absurd cc

one_apart : (p x : ℕ) → (x ≡ p → ⊥) → has (p ∷ []) x ≡ false
one_apart p x ne = or_from (nat_eq x p) false (ne_eqb x p ne) refl

-- None of the places is on the path so far, nor with the first of them on it one of those behind.
abbrev pub AreNew : List ℕ → List ℕ → Type 0
AreNew path places = (x : ℕ) → has places x ≡ true → has path x ≡ false

new_behind : (path : List ℕ) (p q : ℕ) (rest : List ℕ) → has (q ∷ rest) p ≡ false → AreNew path (p ∷ q ∷ rest) → AreNew (path ++ p ∷ []) (q ∷ rest)
new_behind path p q rest apart new x h =
    has_append path (p ∷ []) x
    ∙ or_from (has path x) (has (p ∷ []) x) (new x (has_behind p (q ∷ rest) x h)) (one_apart p x (λ e. both_ways (has (q ∷ rest) p) apart (ap (λ (z : ℕ). has (q ∷ rest) z) (sym e) ∙ h)))

module _ (nodes : List Node) (sid : List ℕ) (steps : List Found) (graph : IsGraph nodes steps) where
  picks_at : (path : List ℕ) (p : ℕ) (s : Stands nodes sid path p) (f : Found) → on_at steps p ≡ f → Picks (Goes nodes s.c) f
  picks_at path p s f e = subst (λ (x : Found). Picks (Goes nodes s.c) x) e (graph.each p s.c s.at)

  stands_on : (path : List ℕ) (p q : ℕ) (rest : List ℕ) → Stands nodes sid path p → on_at steps p ≡ One q → has (q ∷ rest) p ≡ false → AreNew path (p ∷ q ∷ rest) → Stands nodes sid (path ++ p ∷ []) q
  stands_on path p q rest s o apart new =
      stands_next nodes sid path p s (path ++ p ∷ []) refl q (picks_at path p s (One q) o) (new_behind path p q rest apart new q (has_head q rest))

  last : (path : List ℕ) (p : ℕ) (s : Stands nodes sid path p) (end : Found) → Picks (Goes nodes s.c) end → Ends (path ++ p ∷ []) end → IsOnlyPath nodes sid (path ++ p ∷ [])
  last path p s Nothing k e = stands_end nodes sid path p s (path ++ p ∷ []) refl k
  last path p s (One q) k e = stands_closed nodes sid path p s (path ++ p ∷ []) refl q k e
  last path p s Several k e = absurd e

  only_rest : (path : List ℕ) (p : ℕ) (rest : List ℕ) (end : Found) → Stands nodes sid path p → Linked steps (p ∷ rest) end → AreApart (p ∷ rest) → AreNew path (p ∷ rest) → Ends (path ++ p ∷ rest) end → IsOnlyPath nodes sid (path ++ p ∷ rest)
  only_rest path p [] end s l a new e = last path p s end (picks_at path p s end l) e
  only_rest path p (q ∷ rest) end s l a new e =
      let same = append_assoc path (p ∷ []) (q ∷ rest) in
      subst (λ (ps : List ℕ). IsOnlyPath nodes sid ps) same
      (only_rest (path ++ p ∷ []) q rest end (stands_on path p q rest s l.0 a.0 new) l.1 a.1 (new_behind path p q rest a.0 new) (subst (λ (ps : List ℕ). Ends ps end) (sym same) e))

  pub only_run : (first n : ℕ) → IsFirst nodes sid first → RunFrom steps first n → IsOnlyPath nodes sid (walk steps n first)
  only_run first n f r =
      let only = only_rest [] first r.behind r.run.end (stands_first nodes sid first f) r.run.linked r.run.apart (λ x h. refl) r.run.ends in
      let whole = linked_walk steps first r.behind r.run.end r.run.linked in
      subst (λ (k : ℕ). IsOnlyPath nodes sid (walk steps k first)) r.long (subst (λ (ps : List ℕ). IsOnlyPath nodes sid ps) (sym whole) only)

  forks_rest : (path : List ℕ) (p : ℕ) (rest : List ℕ) → Stands nodes sid path p → Linked steps (p ∷ rest) Several → AreApart (p ∷ rest) → AreNew path (p ∷ rest) → HasNoOnlyPath nodes sid
  forks_rest path p [] s l a new = stands_forks nodes sid path p s (path ++ p ∷ []) refl (picks_at path p s Several l)
  forks_rest path p (q ∷ rest) s l a new =
      forks_rest (path ++ p ∷ []) q rest (stands_on path p q rest s l.0 a.0 new) l.1 a.1 (new_behind path p q rest a.0 new)

  pub none_run : (first : ℕ) → IsFirst nodes sid first → Forks steps first → HasNoOnlyPath nodes sid
  none_run first f r = forks_rest [] first r.behind (stands_first nodes sid first f) r.linked r.apart (λ x h. refl)

-- A signer with no certificate, or more than one.
pub none_first_of : (nodes : List Node) (sid : List ℕ) (f : Found) → Picks (IsEntry nodes false sid) f → ((place : ℕ) → f ≡ One place → ⊥) → HasNoOnlyPath nodes sid
none_first_of nodes sid Nothing k n = none_first nodes sid k
none_first_of nodes sid (One place) k n = absurd (n place refl)
none_first_of nodes sid Several k n = several_first nodes sid k

pub first_inside : (nodes : List Node) (sid : List ℕ) (first : ℕ) → IsFirst nodes sid first → first < length nodes
first_inside nodes sid first f = at_inside nodes first f.0.node f.0.at
