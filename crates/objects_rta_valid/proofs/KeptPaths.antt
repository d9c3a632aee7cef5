-- What is kept of paths, one after another.
use Rattle.std.proofs.Common.{◌≡◌, ◌≢◌, ℕ, zero, suc, ◌-◌, ◌<◌, ◌||◌, Bool, true, false, List, [], ◌∷◌, ◌++◌, length, get_or, replicate, take, drop, Option, Some, None, MatchOption, slice_get, All, Any, refl, sym, ap, subst, ◌∙◌, arith}
use Rattle.std.proofs.lemmas.Bool.{both_ways}
use Rattle.std.proofs.lemmas.List.Elements.{All-cons, All-nil, All-push, All-tail}
use Rattle.std.proofs.lemmas.List.Folds.{list_any-append, Any-from_list_any, list_any-from_Any}
use Rattle.std.proofs.lemmas.Option.{slice_get-get_or}
use Rattle.std.proofs.Math.Seq.{take-append_seam}
use Rattle.objects_rta_valid.specs.Kept.{Kept}
use Rattle.objects_rta_valid.specs.Nodes.{Node}
use Rattle.objects_rta_valid.specs.Paths.{Follows, IsOn, IsPath}
use Rattle.objects_rta_valid.specs.OnPaths.{has, some_has}
use Rattle.objects_rta_valid.specs.Runs.{IsMeasured, known_at, on_at, onward, walk}
use Rattle.objects_rta_valid.specs.declared.paths.lengths.Length.{Length}
use Rattle.objects_rta_valid.specs.declared.paths.lengths.Length.TheVariants.{Unknown}
use Rattle.objects_rta_valid.specs.declared.paths.table.Found.{Found}
use Rattle.objects_rta_valid.proofs.Members.{at_inside, has_from, has_to}
use Rattle.objects_rta_valid.proofs.Running.{linked_walk}

-- A list that was lent as a whole, and handed back.
pub handed_back : {X : Type 0} (n : ℕ) (new items : List X) → n ≡ length items → length new ≡ length items → take n (new ++ drop (length new) items) ≡ new
handed_back {X = X} n new items e f =
    ap (λ (m : ℕ). take m (new ++ drop (length new) items)) (e ∙ sym f) ∙ take-append_seam new (drop (length new) items)

-- The places of a path are those of certificates, and it has one.
follows_inside : (nodes : List Node) (seen : List ℕ) (c : Node) (places : List ℕ) → Follows nodes seen c places → All (λ place. place < length nodes) places
follows_inside nodes seen c [] h = All-nil (λ place. place < length nodes)
follows_inside nodes seen c (place ∷ places) h =
    All-cons (λ p. p < length nodes) place places (at_inside nodes place h.1.parent h.1.at) (follows_inside nodes (place ∷ seen) h.1.parent places h.2)

pub path_inside : (nodes : List Node) (sid : List ℕ) (path : List ℕ) → IsPath nodes sid path → All (λ place. place < length nodes) path
path_inside nodes sid [] h = absurd h
path_inside nodes sid (place ∷ places) h =
    All-cons (λ p. p < length nodes) place places (at_inside nodes place h.0 h.1) (follows_inside nodes (place ∷ []) h.0 places h.3)

pub path_some : (nodes : List Node) (sid : List ℕ) (path : List ℕ) → IsPath nodes sid path → path ≢ []
path_some nodes sid [] h e = h
path_some nodes sid (place ∷ places) h e = cc

-- Nothing is known yet.
unknown_at : (n place : ℕ) → get_or (replicate n Unknown) place Unknown ≡ Unknown
unknown_at zero place = refl
unknown_at (suc n) zero = refl
unknown_at (suc n) (suc place) = unknown_at n place

-- One path more.
pub kept_next : (steps : List Found) (old new : List Length) (paths : List (List ℕ)) (first n : ℕ) → Kept steps old paths → (m : IsMeasured steps old new first n) → walk steps n first ≢ [] → All (λ place. place < length steps) (walk steps n first) → Kept steps new (paths ++ walk steps n first ∷ [])
kept_next steps old new paths first n kept m some inside =
    record {
      size = m.measured.size;
      some = All-push (λ (p : List ℕ). p ≢ []) paths path kept.some some;
      inside = All-push (λ (p : List ℕ). All (λ (place : ℕ). place < length steps) p) paths path kept.inside inside;
      on = on;
    }
  where
    path : List ℕ
    path = walk steps n first

    whole : path ≡ first ∷ m.path.behind
    whole = ap (λ (k : ℕ). walk steps k first) (sym m.path.long) ∙ linked_walk steps first m.path.behind m.path.run.end m.path.run.linked

    or_false : (a b : Bool) → (a || (b || false)) ≡ (a || b)
    or_false true b = refl
    or_false false true = refl
    or_false false false = refl

    on : (x : ℕ) → some_has (paths ++ path ∷ []) x ≡ known_at new x
    on x =
        list_any-append (λ (p : List ℕ). has p x) paths (path ∷ [])
        ∙ (or_false (some_has paths x) (has path x)
        ∙ (ap (λ (a : Bool). a || has path x) (kept.on x)
        ∙ (ap (λ (ps : List ℕ). known_at old x || has ps x) whole ∙ sym (m.on x))))

-- A place is on a path exactly where its length is known.
pub on_from : (steps : List Found) (lengths : List Length) (paths : List (List ℕ)) → Kept steps lengths paths → (x : ℕ) → known_at lengths x ≡ true → IsOn paths x
on_from steps lengths paths kept x e =
    let a : Any (λ (path : List ℕ). has path x ≡ true) paths = Any-from_list_any (λ (path : List ℕ). has path x) paths (kept.on x ∙ e) in
    (a.0, a.1, a.2, a.3, has_to a.1 x a.4)

pub off_from : (steps : List Found) (lengths : List Length) (paths : List (List ℕ)) → Kept steps lengths paths → (x : ℕ) → known_at lengths x ≡ false → IsOn paths x → ⊥
off_from steps lengths paths kept x e a =
    let h : some_has paths x ≡ true = list_any-from_Any (λ (path : List ℕ). has path x) paths (a.0, a.1, a.2, a.3, has_from a.1 x a.4) in
    both_ways (some_has paths x) (kept.on x ∙ e) h

-- One of the paths that are kept.
module _ (steps : List Found) (lengths : List Length) (paths : List (List ℕ)) (kept : Kept steps lengths paths) (i : ℕ) (l : i < length paths) where
  pub kept_at : (path : List ℕ) → path ≡ get_or paths i [] → slice_get paths i ≡ Some path
  kept_at path e = slice_get-get_or paths i [] l ∙ ap (λ (p : List ℕ). let o : Option (List ℕ) = Some p in o) (sym e)

  pub kept_some : (path : List ℕ) → path ≡ get_or paths i [] → path ≢ []
  kept_some path e = subst (λ (p : List ℕ). p ≢ []) (sym e) (kept.some i [] l)

  pub kept_inside : (path : List ℕ) → path ≡ get_or paths i [] → All (λ place. place < length steps) path
  kept_inside path e = subst (λ (p : List ℕ). All (λ (place : ℕ). place < length steps) p) (sym e) (kept.inside i [] l)

-- The first place of a walk that isn't over, and those behind.
pub walk_more : (steps : List Found) (n place : ℕ) → n ≢ 0 → walk steps n place ≡ place ∷ walk steps (n - 1) (onward (on_at steps place) place)
walk_more steps zero place ne = absurd (ne refl)
walk_more steps (suc n) place ne = let e : suc n - 1 ≡ n = omega arith in ap (λ (k : ℕ). place ∷ walk steps k (onward (on_at steps place) place)) (sym e)

pub walk_tail : (steps : List Found) (n place : ℕ) → n ≢ 0 → All (λ p. p < length steps) (walk steps n place) → All (λ p. p < length steps) (walk steps (n - 1) (onward (on_at steps place) place))
walk_tail steps n place ne all = All-tail (λ (p : ℕ). p < length steps) place (walk steps (n - 1) (onward (on_at steps place) place)) (subst (λ (ps : List ℕ). All (λ (p : ℕ). p < length steps) ps) (walk_more steps n place ne) all)

-- What is told of an option that is known.
pub match_none : {X : Type 0} (o : Option X) (P : Type 0) (Q : X → Type 0) → o ≡ None → MatchOption o P Q → P
match_none None P Q e m = m
match_none (Some x) P Q e m = absurd cc

pub match_some : {X : Type 0} (o : Option X) (x : X) (P : Type 0) (Q : X → Type 0) → o ≡ Some x → MatchOption o P Q → Q x
match_some None x P Q e m = absurd cc
match_some (Some y) x P Q e m = let same : y ≡ x = cc in subst Q same m
