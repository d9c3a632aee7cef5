-- Objects that ascend, looked up by a key.
use Rattle.std.proofs.Common.{◌≡◌, ℕ, zero, suc, ◌<◌, ◌≤◌, ◌⊎◌, inl, inr, List, [], ◌∷◌, length, get_or, map, Option, Some, None, refl, sym, ap, ◌∙◌, subst, arith}
use Rattle.std.proofs.Math.ListN.{get_or-map}
use Rattle.std.proofs.lemmas.List.{length-map}
use Rattle.std.proofs.lemmas.Bool.{cases_lt}
use Rattle.std.proofs.lemmas.Map.Keys.{Less-from_sorted}
use Rattle.std.specs.Prelude.{IfNone}
use Rattle.std.specs.declared.cmp.Ordering.{Ordering}
use Rattle.std.specs.declared.cmp.Ordering.TheVariants.{Less, Equal, Greater}
use Rattle.std.specs.FinMap.{slice_cmp-IsAntisymmetric, nat_cmp-IsAntisymmetric}
use Rattle.std.proofs.lemmas.Cmp.{tied_itself}
use Rattle.std.specs.Ordering.{nat_cmp, ordering_index}
use Rattle.std.specs.Cmp.Lexicographic.{slice_cmp, nat_list_cmp_total}
use Rattle.std.specs.List.Sorted.{IsNonDecreasingBy, IsPartitionPoint}
use Rattle.rpki_bundle.specs.declared.parts.Object.{Object}
use Rattle.rpki_bundle.specs.Orders.{Ascends}
use Rattle.rpki_bundle.specs.Objects.{IsAt}

-- The order of an object against a key.
abbrev pub cmp_at : List ℕ → Object → Ordering
cmp_at key o = slice_cmp nat_cmp o.uri key

-- One of the objects by its place,
pub is_at : (objects : List Object) (i : ℕ) (o : Object) (key : List ℕ) → i < length objects → o ≡ get_or objects i o → o.uri ≡ key → IsAt objects key o.octets
is_at [] i o key lt e u = absurd (omega arith)
is_at (p ∷ ps) zero o key lt e u = inl (ap (λ (z : Object). z.uri) (sym e) ∙ u, ap (λ (z : Object). z.octets) (sym e))
is_at (p ∷ ps) (suc i) o key lt e u = inr (is_at ps i o key (omega arith) e u)

-- and the place of one.
pub record PlaceOf (objects : List Object) (key : List ℕ) : Type 0 where
  pub place : ℕ
  pub inside : place < length objects
  pub uri_is : (d : Object) → (get_or objects place d).uri ≡ key

pub place_of : (objects : List Object) (key octets : List ℕ) → IsAt objects key octets → PlaceOf objects key
place_of [] key octets h = absurd h
place_of (p ∷ ps) key octets (inl h) = record { place = 0; inside = omega arith; uri_is = λ d. h.0 }
place_of (p ∷ ps) key octets (inr h) = let r = place_of ps key octets h in record { place = suc r.place; inside = omega (arith, r.inside); uri_is = r.uri_is }

-- Against a key, what stands before is no later.
index_rises : (a b key : List ℕ) (o p : Ordering) → slice_cmp nat_cmp a b ≡ Less → slice_cmp nat_cmp a key ≡ o → slice_cmp nat_cmp b key ≡ p → ordering_index o ≤ ordering_index p
index_rises a b key o Less l e f =
    let t : o ≡ Less = sym e ∙ nat_list_cmp_total.trans a b key l f in
    omega (arith, ap ordering_index t)
index_rises a b key o Equal l e f =
    let same = slice_cmp-IsAntisymmetric nat_cmp-IsAntisymmetric b key f in
    let t : o ≡ Less = sym e ∙ ap (slice_cmp nat_cmp a) (sym same) ∙ l in
    omega (arith, ap ordering_index t)
index_rises a b key Less Greater l e f = omega arith
index_rises a b key Equal Greater l e f = omega arith
index_rises a b key Greater Greater l e f = omega arith

-- So objects that ascend rise against it.
pub rises : (objects : List Object) (key : List ℕ) → Ascends (λ (o : Object). o.uri) objects → IsNonDecreasingBy (λ (o : Object). ordering_index (cmp_at key o)) objects
rises objects key a = λ i j d le lt. at i j d lt (cases_lt i j) le
  where
    at : (i j : ℕ) (d : Object) → j < length objects → (i < j) ⊎ (j ≤ i) → i ≤ j → ordering_index (cmp_at key (get_or objects i d)) ≤ ordering_index (cmp_at key (get_or objects j d))
    at i j d lt (inl before) le =
        let uri = λ (o : Object). o.uri in
        let less = Less-from_sorted (slice_cmp nat_cmp) (map uri objects) i j (uri d) a before (omega (arith, length-map objects uri)) in
        let here : slice_cmp nat_cmp (uri (get_or objects i d)) (uri (get_or objects j d)) ≡ Less = sym (ap (λ (z : List ℕ). slice_cmp nat_cmp z (uri (get_or objects j d))) (get_or-map uri objects i d)) ∙ sym (ap (slice_cmp nat_cmp (get_or (map uri objects) i (uri d))) (get_or-map uri objects j d)) ∙ less in
        index_rises (uri (get_or objects i d)) (uri (get_or objects j d)) key (cmp_at key (get_or objects i d)) (cmp_at key (get_or objects j d)) here refl refl
    at i j d lt (inr behind) le =
        let same : i ≡ j = omega arith in
        omega (arith, ap (λ (k : ℕ). ordering_index (cmp_at key (get_or objects k d))) same)

-- Where the search ended between those before and those after, none has the key.
pub none_at : (objects : List Object) (key : List ℕ) (i : ℕ) → IsPartitionPoint (λ (o : Object). cmp_at key o ≡ Less) (λ (o : Object). cmp_at key o ≡ Greater) objects i → (octets : List ℕ) → IsAt objects key octets → ⊥
none_at objects key i p octets h =
    let r = place_of objects key octets h in
    at r (cases_lt r.place i)
  where
    at : (r : PlaceOf objects key) → (r.place < i) ⊎ (i ≤ r.place) → ⊥
    at r (inl lt) =
        let d : Object = record { uri = key; octets = key } in
        let equal : cmp_at key (get_or objects r.place d) ≡ Equal = ap (λ (z : List ℕ). slice_cmp nat_cmp z key) (r.uri_is d) ∙ tied_itself nat_list_cmp_total key in
        let less : cmp_at key (get_or objects r.place d) ≡ Less = p.0 r.place d (omega arith) lt in cc
    at r (inr ge) =
        let d : Object = record { uri = key; octets = key } in
        let equal : cmp_at key (get_or objects r.place d) ≡ Equal = ap (λ (z : List ℕ). slice_cmp nat_cmp z key) (r.uri_is d) ∙ tied_itself nat_list_cmp_total key in
        let greater : cmp_at key (get_or objects r.place d) ≡ Greater = p.1 r.place d ge r.inside in cc

-- Where none of the objects was found, the same holds of them by another name.
pub none_found : {A : Type 0} {os ps : List Object} (Q : Type 0) (key : List ℕ) (r : Option A) → os ≡ ps → IfNone r ((octets : List ℕ) → IsAt os key octets → ⊥) → IfNone r (Q → (octets : List ℕ) → IsAt ps key octets → ⊥)
none_found Q key (Some x) e h = tt
none_found Q key None e h = λ q octets i. h octets (subst (λ (z : List Object). IsAt z key octets) (sym e) i)
