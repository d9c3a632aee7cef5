-- Tables of what stands behind each place.
use Rattle.std.proofs.Common.{◌≡◌, ℕ, ◌+◌, ◌<◌, ◌≤◌, zero, suc, List, [], ◌∷◌, ◌++◌, Option, Some, None, drop, length, set, replicate, refl, sym, ap, ◌∙◌, subst, inl, inr, arith}
use Rattle.std.specs.Prelude.{◌⊎◌}
use Rattle.std.specs.List.{flat_map, slice_get}
use Rattle.std.proofs.lemmas.Bool.{cases_lt}
use Rattle.std.proofs.lemmas.Bool.Decides.{eqb_tells}
use Rattle.std.proofs.lemmas.Option.{same_Some, slice_get_within}
use Rattle.std.proofs.Math.ListN.{length-set, length-replicate}
use Rattle.std.proofs.Math.Numerals.{add-one}
use Rattle.certs_verify.specs.certs_basics.Lists.{Mem}
use Rattle.objects_rta_valid.specs.Places.{AreFunctional, AreLinks, ArePairsTo, BeginBelow, HaveSame, link_pair, linked, pairs, pairs_from, pairs_of}
use Rattle.objects_rta_valid.proofs.Flat.{cut}
use Rattle.objects_rta_valid.proofs.Steps.{mem_left, mem_right, mem_split}

pub at_set : {X : Type 0} (xs : List X) (i : ℕ) (x : X) → i < length xs → slice_get (set xs i x) i ≡ Some x
at_set [] i x h = absurd (omega arith)
at_set (y ∷ ys) zero x h = refl
at_set (y ∷ ys) (suc i) x h = at_set ys i x (omega arith)

pub beside_set : {X : Type 0} (xs : List X) (i k : ℕ) (x : X) → (i ≡ k → ⊥) → slice_get (set xs i x) k ≡ slice_get xs k
beside_set [] i k x h = refl
beside_set (y ∷ ys) zero zero x h = absurd (h refl)
beside_set (y ∷ ys) zero (suc k) x h = refl
beside_set (y ∷ ys) (suc i) zero x h = refl
beside_set (y ∷ ys) (suc i) (suc k) x h = beside_set ys i k x (λ e. h (ap suc e))

-- What the table has behind a place was there, or is of a pair.
sound : (links : List (Option ℕ)) (ps : List (ℕ × ℕ)) (a b : ℕ) → BeginBelow (length links) ps
    → slice_get (linked links ps) a ≡ Some (Some b) → (slice_get links a ≡ Some (Some b)) ⊎ Mem ps (a, b)
sound links [] a b inside e = inl e
sound links (p ∷ ps) a b inside e =
    let here : p.0 < length links = inside p.0 p.1 (inl refl) in
    let long : length (set links p.0 (Some p.1)) ≡ length links = length-set links p.0 (Some p.1) in
    let rest : BeginBelow (length (set links p.0 (Some p.1))) ps = λ x y m. subst (λ (n : ℕ). x < n) (sym long) (inside x y (inr m)) in
    elim (sound (set links p.0 (Some p.1)) ps a b rest e) [
      | inl was ↦ elim (eqb_tells p.0 a) [
        | inl same ↦ inr (inl (at_pair p.0 p.1 a b same.1 (same_Some p.1 b (same_Some (Some p.1) (Some b) (sym (at_set links p.0 (Some p.1) here) ∙ subst (λ (n : ℕ). slice_get (set links p.0 (Some p.1)) n ≡ Some (Some b)) (sym same.1) was)))))
        | inr other ↦ inl (sym (beside_set links p.0 a (Some p.1) other.1) ∙ was)
      ]
      | inr m ↦ inr (inr m)
    ]
  where
    at_pair : (x y a b : ℕ) → x ≡ a → y ≡ b → ◌≡◌ {A = ℕ × ℕ} (x, y) (a, b)
    at_pair x y a b e f = cc

-- And each pair is in the table, where behind each place stands one at most.
whole : (links : List (Option ℕ)) (ps : List (ℕ × ℕ)) (a b : ℕ) → BeginBelow (length links) ps → a < length links
    → ((c : ℕ) → Mem ps (a, c) → c ≡ b) → (slice_get links a ≡ Some (Some b)) ⊎ Mem ps (a, b) → slice_get (linked links ps) a ≡ Some (Some b)
whole links [] a b inside h only (inl was) = was
whole links [] a b inside h only (inr m) = absurd m
whole links (p ∷ ps) a b inside h only was =
    let long : length (set links p.0 (Some p.1)) ≡ length links = length-set links p.0 (Some p.1) in
    let rest : BeginBelow (length (set links p.0 (Some p.1))) ps = λ x y m. subst (λ (n : ℕ). x < n) (sym long) (inside x y (inr m)) in
    let fits : a < length (set links p.0 (Some p.1)) = subst (λ (n : ℕ). a < n) (sym long) h in
    let behind : (slice_get (set links p.0 (Some p.1)) a ≡ Some (Some b)) ⊎ Mem ps (a, b) → slice_get (linked (set links p.0 (Some p.1)) ps) a ≡ Some (Some b) =
    whole (set links p.0 (Some p.1)) ps a b rest fits (λ c m. only c (inr m)) in
    elim (eqb_tells p.0 a) [
      | inl same ↦ behind (inl (subst (λ (n : ℕ). slice_get (set links p.0 (Some p.1)) n ≡ Some (Some b)) same.1
          (at_set links p.0 (Some p.1) (inside p.0 p.1 (inl refl)) ∙ ap (λ (n : ℕ). Some (Some n)) (only p.1 (inl (first_same p.0 p.1 a same.1))))))
      | inr other ↦ elim was [
        | inl w ↦ behind (inl (beside_set links p.0 a (Some p.1) other.1 ∙ w))
        | inr m ↦ elim m [ inl here ↦ absurd (other.1 (ap (λ (q : ℕ × ℕ). q.0) here)) | inr more ↦ behind (inr more) ]
      ]
    ]
  where
    first_same : (x y a : ℕ) → x ≡ a → ◌≡◌ {A = ℕ × ℕ} (x, y) (a, y)
    first_same x y a e = cc

none_at : (count a b : ℕ) → slice_get (replicate count None) a ≡ Some (Some b) → ⊥
none_at zero a b e = cc
none_at (suc n) zero b e = cc
none_at (suc n) (suc a) b e = none_at n a b e

pub links_from : (ps : List (ℕ × ℕ)) (count : ℕ) (links : List (Option ℕ)) → BeginBelow count ps → AreFunctional ps
    → links ≡ linked (replicate count None) ps → length links ≡ count → AreLinks ps count links
links_from ps count links inside functional e long = record {
  long = long;
  same = λ a b. (
    (λ f. elim (sound (replicate count None) ps a b (subst (λ (n : ℕ). BeginBelow n ps) (sym (length-replicate {A = Option ℕ} count None)) inside) (ap (λ (t : List (Option ℕ)). slice_get t a) (sym e) ∙ f)) [
      | inl was ↦ absurd (none_at count a b was)
      | inr m ↦ m
    ]),
    (λ m. ap (λ (t : List (Option ℕ)). slice_get t a) e ∙ whole (replicate count None) ps a b (subst (λ (n : ℕ). BeginBelow n ps) (sym (length-replicate {A = Option ℕ} count None)) inside)
        (subst (λ (n : ℕ). a < n) (sym (length-replicate {A = Option ℕ} count None)) (inside a b m)) (λ c n. functional a c b n m) (inr m)),
  );
}

-- Pairs that are written one path after the other.
pub linked_append : (links : List (Option ℕ)) (ps qs : List (ℕ × ℕ)) → linked (linked links ps) qs ≡ linked links (ps ++ qs)
linked_append links [] qs = refl
linked_append links (p ∷ ps) qs = linked_append (set links p.0 (Some p.1)) ps qs

pub length_linked : (links : List (Option ℕ)) (ps : List (ℕ × ℕ)) → length (linked links ps) ≡ length links
length_linked links [] = refl
length_linked links (p ∷ ps) = length_linked (set links p.0 (Some p.1)) ps ∙ length-set links p.0 (Some p.1)

pub linked_step : (paths : List (List ℕ)) (i : ℕ) (path : List ℕ) (links whole : List (Option ℕ)) → slice_get paths i ≡ Some path → linked links (flat_map pairs_of (drop i paths)) ≡ whole
    → linked (linked links (pairs_of path)) (flat_map pairs_of (drop (i + 1) paths)) ≡ whole
linked_step paths i path links whole at h =
    rw add-one (linked_append links (pairs_of path) (flat_map pairs_of (drop (suc i) paths)) ∙ sym (ap (λ (xs : List (List ℕ)). linked links (flat_map pairs_of xs)) (cut paths i path at)) ∙ h)

pub linked_done : (paths : List (List ℕ)) (i : ℕ) (links whole : List (Option ℕ)) → length paths ≤ i → linked links (flat_map pairs_of (drop i paths)) ≡ whole → links ≡ whole
linked_done [] zero links whole l h = h
linked_done [] (suc i) links whole l h = h
linked_done (p ∷ ps) zero links whole l h = absurd (omega arith)
linked_done (p ∷ ps) (suc i) links whole l h = linked_done ps i links whole (omega arith) h

-- The pairs of one path begin where those of all do.
mem_flat : (paths : List (List ℕ)) (i : ℕ) (path : List ℕ) (q : ℕ × ℕ) → slice_get paths i ≡ Some path → Mem (pairs_of path) q → Mem (pairs paths) q
mem_flat [] i path q at m = absurd cc
mem_flat (x ∷ xs) zero path q at m = mem_left (pairs_of x) (pairs xs) q (subst (λ (p : List ℕ). Mem (pairs_of p) q) (sym (same_Some x path at)) m)
mem_flat (x ∷ xs) (suc i) path q at m = mem_right (pairs_of x) (pairs xs) q (mem_flat xs i path q at m)

pub path_begins : (paths : List (List ℕ)) (i : ℕ) (path : List ℕ) (count : ℕ) (links : List (Option ℕ)) → slice_get paths i ≡ Some path → length links ≡ count → BeginBelow count (pairs paths) → BeginBelow (length links) (pairs_of path)
path_begins paths i path count links at long inside a b m = subst (λ (n : ℕ). a < n) (sym long) (inside a b (mem_flat paths i path (a, b) at m))

-- The steps of the loop that writes the pairs of a path.
pub begins : (count first next : ℕ) (path rest : List ℕ) → BeginBelow count (pairs_from first path) → path ≡ next ∷ rest → first < count
begins count first next path rest inside e = subst (λ (p : List ℕ). BeginBelow count (pairs_from first p)) e inside first next (inl refl)

pub begin_more : (count first next : ℕ) (path rest : List ℕ) → BeginBelow count (pairs_from first path) → path ≡ next ∷ rest → BeginBelow count (pairs_from next rest)
begin_more count first next path rest inside e = λ a b m. subst (λ (p : List ℕ). BeginBelow count (pairs_from first p)) e inside a b (inr m)

pub linked_more : (links whole : List (Option ℕ)) (first next : ℕ) (path rest : List ℕ) → path ≡ next ∷ rest → linked links (pairs_from first path) ≡ whole → linked (set links first (Some next)) (pairs_from next rest) ≡ whole
linked_more links whole first next path rest e h = subst (λ (p : List ℕ). linked links (pairs_from first p) ≡ whole) e h

-- The pairs that a table has, place by place.
pub pairs_none : (links : List (Option ℕ)) → ArePairsTo links 0 []
pairs_none links a b = ((λ m. absurd m), (λ h. let l : a < 0 = h.0 in absurd (omega arith)))

same_pair : (x y a b : ℕ) → ◌≡◌ {A = ℕ × ℕ} (x, y) (a, b) → (x ≡ a) × (y ≡ b)
same_pair x y a b e = (ap (λ (q : ℕ × ℕ). q.0) e, ap (λ (q : ℕ × ℕ). q.1) e)

in_link : (i a b : ℕ) (link : Option ℕ) → Mem (link_pair i link) (a, b) → (i ≡ a) × (link ≡ Some b)
in_link i a b None m = absurd m
in_link i a b (Some n) (inl e) = (let s = same_pair i n a b e in (s.0, ap (λ (k : ℕ). Some k) s.1))
in_link i a b (Some n) (inr none) = absurd none

link_in : (i a b : ℕ) (link : Option ℕ) → i ≡ a → link ≡ Some b → Mem (link_pair i link) (a, b)
link_in i a b link e f = subst (λ (o : Option ℕ). Mem (link_pair i o) (a, b)) (sym f) (inl (ap (λ (x : ℕ). let q : ℕ × ℕ = (x, b) in q) e))

pub pairs_more : (links : List (Option ℕ)) (i : ℕ) (link : Option ℕ) (ps : List (ℕ × ℕ)) → slice_get links i ≡ Some link → ArePairsTo links i ps → ArePairsTo links (i + 1) (ps ++ link_pair i link)
pairs_more links i link ps at h a b = (to, back)
  where
    to : Mem (ps ++ link_pair i link) (a, b) → (a < i + 1) × (slice_get links a ≡ Some (Some b))
    to m = elim (mem_split ps (link_pair i link) (a, b) m) [
      | inl before ↦ (let k = (h a b).0 before in let l : a < i = k.0 in (omega arith, k.1))
      | inr here ↦ (let k = in_link i a b link here in let e : i ≡ a = k.0 in (omega arith, subst (λ (n : ℕ). slice_get links n ≡ Some (Some b)) k.0 (at ∙ ap (λ (o : Option ℕ). Some o) k.1)))
    ]

    back : (a < i + 1) × (slice_get links a ≡ Some (Some b)) → Mem (ps ++ link_pair i link) (a, b)
    back k = elim (eqb_tells i a) [
      | inl same ↦ mem_right ps (link_pair i link) (a, b) (link_in i a b link same.1 (same_Some link (Some b) (sym at ∙ subst (λ (n : ℕ). slice_get links n ≡ Some (Some b)) (sym same.1) k.1)))
      | inr other ↦ mem_left ps (link_pair i link) (a, b) ((h a b).1 (before k.0 other.1, k.1))
    ]
      where
        before : a < i + 1 → (i ≡ a → ⊥) → a < i
        before l ne = elim (cases_lt a i) [ inl lt ↦ lt | inr ge ↦ absurd (ne (omega arith)) ]

pub pairs_all : (links : List (Option ℕ)) (i : ℕ) (ps : List (ℕ × ℕ)) → i ≡ length links → ArePairsTo links i ps → ArePairsTo links (length links) ps
pairs_all links i ps e h = subst (λ (n : ℕ). ArePairsTo links n ps) e h

pub same_pairs : (links : List (Option ℕ)) (count : ℕ) (ps qs : List (ℕ × ℕ)) → AreLinks qs count links → ArePairsTo links (length links) ps → HaveSame ps qs
same_pairs links count ps qs behind are q = (
  (λ m. (behind.same q.0 q.1).0 ((are q.0 q.1).0 m).1),
  (λ m. let f = (behind.same q.0 q.1).1 m in (are q.0 q.1).1 (slice_get_within links q.0 (Some q.1) f, f)),
)
