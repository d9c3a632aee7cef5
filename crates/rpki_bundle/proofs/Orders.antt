-- Lists that ascend, by each entry and the next.
use Rattle.std.proofs.Common.{◌≡◌, ℕ, ◌+◌, ◌-◌, ◌<◌, ◌≤◌, ◌⊎◌, inl, inr, List, [], ◌∷◌, ◌++◌, length, get_or, map, refl, sym, ap, ◌∙◌, subst, arith}
use Rattle.std.proofs.Math.ListN.{get_or-map}
use Rattle.std.proofs.lemmas.List.{get_or_default, length-map}
use Rattle.std.proofs.lemmas.Bool.{cases_lt}
use Rattle.std.specs.Prelude.{IsTrue}
use Rattle.std.specs.declared.cmp.Ordering.{Ordering}
use Rattle.std.specs.declared.cmp.Ordering.TheVariants.{Less, Equal, Greater}
use Rattle.std.specs.Ordering.{nat_cmp, ordering_then, is_lt}
use Rattle.std.specs.Cmp.Lexicographic.{slice_cmp, nat_list_cmp_total}
use Rattle.std.proofs.lemmas.Map.Keys.{sorted_from_all_adjacent, Less-from_sorted}
use Rattle.rpki_bundle.specs.Orders.{IsBefore, Ascends}

-- each of the first n but the last stands before the next
pub record AscendsBelow {A : Type 0} (key : A → List ℕ) (xs : List A) (n : ℕ) : Type 0 where
  pub each : (k : ℕ) (d : A) → k + 1 < n → IsBefore (key (get_or xs k d)) (key (get_or xs (k + 1) d))

-- one more stands before the next
pub ascends_next : {A : Type 0} {key : A → List ℕ} {xs : List A} (i : ℕ) (x y : A) → x ≡ get_or xs (i - 1) x → y ≡ get_or xs i y → 1 ≤ i → i < length xs → IsBefore (key x) (key y) → AscendsBelow key xs i → AscendsBelow key xs (i + 1)
ascends_next {A} {key} {xs} i x y xi yi one small before a = record {
  each = λ k d h. at k d h (cases_lt (k + 1) i);
}
  where
    at : (k : ℕ) (d : A) → k + 1 < i + 1 → (k + 1 < i) ⊎ (i ≤ k + 1) → IsBefore (key (get_or xs k d)) (key (get_or xs (k + 1) d))
    at k d h (inl lt) = a.each k d lt
    at k d h (inr ge) =
        let place : i - 1 ≡ k = omega arith in
        let next : i ≡ k + 1 = omega arith in
        let first : x ≡ get_or xs k d = xi ∙ get_or_default xs (i - 1) x d (omega arith) ∙ ap (λ (n : ℕ). get_or xs n d) place in
        let second : y ≡ get_or xs (k + 1) d = yi ∙ get_or_default xs i y d small ∙ ap (λ (n : ℕ). get_or xs n d) next in
        subst (λ (z : A). IsBefore (key z) (key (get_or xs (k + 1) d))) first (subst (λ (z : A). IsBefore (key x) (key z)) second before)

-- what stands so, each before the next, ascends
pub ascends_end : {A : Type 0} {key : A → List ℕ} (xs : List A) (n : ℕ) → AscendsBelow key xs n → length xs ≤ n → Ascends key xs
ascends_end [] n a h = sorted_from_all_adjacent nat_list_cmp_total [] [] (λ k lt. absurd (omega arith))
ascends_end {key = key} (x ∷ xs) n a h =
    sorted_from_all_adjacent nat_list_cmp_total (map key (x ∷ xs)) (key x) (λ k lt.
    let short : k + 1 < length (x ∷ xs) = omega (arith, lt, length-map (x ∷ xs) key) in
    let first = get_or-map key (x ∷ xs) k x in
    let second = get_or-map key (x ∷ xs) (k + 1) x in
    subst (λ (z : List ℕ). IsBefore z (get_or (map key (x ∷ xs)) (k + 1) (key x))) (sym first) (subst (λ (z : List ℕ). IsBefore (key (get_or (x ∷ xs) k x)) z) (sym second) (a.each k x (omega arith))))

-- and where one stands not before the next, the list doesn't ascend
pub ascends_not : {A : Type 0} (key : A → List ℕ) (xs : List A) (i : ℕ) (x y : A) → x ≡ get_or xs (i - 1) x → y ≡ get_or xs i y → 1 ≤ i → i < length xs → (IsBefore (key x) (key y) → ⊥) → Ascends key xs → ⊥
ascends_not key xs i x y xi yi one small not_before a =
    let less = Less-from_sorted (slice_cmp nat_cmp) (map key xs) (i - 1) i (key x) a (omega arith) (omega (arith, length-map xs key)) in
    let first : get_or (map key xs) (i - 1) (key x) ≡ key x = get_or-map key xs (i - 1) x ∙ ap key (sym xi) in
    let second : get_or (map key xs) i (key x) ≡ key y = get_or-map key xs i x ∙ ap key (sym (yi ∙ get_or_default xs i y x small)) in
    not_before (subst (λ (z : List ℕ). IsBefore z (key y)) first (subst (λ (z : List ℕ). IsBefore (get_or (map key xs) (i - 1) (key x)) z) second less))

then_assoc : (o p q : Ordering) → ordering_then (ordering_then o p) q ≡ ordering_then o (ordering_then p q)
then_assoc Less p q = refl
then_assoc Equal p q = refl
then_assoc Greater p q = refl

-- Rows whose fronts are equally long go by the fronts, and then by what is after.
pub cmp_append : (a b x y : List ℕ) → length a ≡ length b → slice_cmp nat_cmp (a ++ x) (b ++ y) ≡ ordering_then (slice_cmp nat_cmp a b) (slice_cmp nat_cmp x y)
cmp_append [] [] x y e = refl
cmp_append [] (b ∷ w) x y e = absurd (omega arith)
cmp_append (a ∷ v) [] x y e = absurd (omega arith)
cmp_append (a ∷ v) (b ∷ w) x y e =
    ap (ordering_then (nat_cmp a b)) (cmp_append v w x y (omega arith)) ∙ sym (then_assoc (nat_cmp a b) (slice_cmp nat_cmp v w) (slice_cmp nat_cmp x y))

-- Three rows after each other.
pub cmp_three : (a b p q x y : List ℕ) → length a ≡ length b → length p ≡ length q → slice_cmp nat_cmp (a ++ (p ++ x)) (b ++ (q ++ y)) ≡ ordering_then (ordering_then (slice_cmp nat_cmp a b) (slice_cmp nat_cmp p q)) (slice_cmp nat_cmp x y)
cmp_three a b p q x y e f =
    cmp_append a b (p ++ x) (q ++ y) e ∙ ap (ordering_then (slice_cmp nat_cmp a b)) (cmp_append p q x y f)
    ∙ sym (then_assoc (slice_cmp nat_cmp a b) (slice_cmp nat_cmp p q) (slice_cmp nat_cmp x y))

-- What `is_lt` says.
pub is_lt_less : (o : Ordering) → IsTrue (is_lt o) → o ≡ Less
is_lt_less Less t = refl
is_lt_less Equal t = absurd cc
is_lt_less Greater t = absurd cc

pub less_is_lt : (o : Ordering) → o ≡ Less → IsTrue (is_lt o)
less_is_lt o e = ap is_lt e
