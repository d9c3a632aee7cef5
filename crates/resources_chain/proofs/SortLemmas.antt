-- Blocks that are put into order are the same set.
use Rattle.std.proofs.Common.{◌≡◌, ℕ, suc, zero, ◌<◌, ◌↔◌, List, [], ◌∷◌, length, get_or, map, inl, inr, refl, sym, subst, arith}
use Rattle.std.specs.List.{Contains}
use Rattle.std.specs.List.Sorted.{IsPermutation, IsNonDecreasingBy}
use Rattle.std.proofs.lemmas.List.Sorted.{Contains-permutation, IsPermutation-sym}
use Rattle.resources_chain.specs.Sets.{Run, InRun, InRuns}
use Rattle.resources_chain.specs.Walks.{AreAscending}

in_contains : {A : Type 0} (f : A → Run) (xs : List A) (n : ℕ) → InRuns (map f xs) n → (x : A) × Contains xs x × InRun (f x) n
in_contains f [] n i = absurd i
in_contains f (y ∷ xs) n (inl i) = (y, (0, omega arith, refl), i)
in_contains f (y ∷ xs) n (inr i) =
    let h = in_contains f xs n i in
    (h.0, (suc h.1.0, omega (arith, h.1.1), h.1.2), h.2)

contains_in : {A : Type 0} (f : A → Run) (xs : List A) (n : ℕ) (x : A) (k : ℕ) → k < length xs → get_or xs k x ≡ x → InRun (f x) n → InRuns (map f xs) n
contains_in f [] n x k p e i = absurd (omega arith)
contains_in {A} f (y ∷ xs) n x zero p e i = inl (subst (λ (z : A). InRun (f z) n) (sym e) i)
contains_in f (y ∷ xs) n x (suc k) p e i = inr (contains_in f xs n x k (omega arith) e i)

moved : {A : Type 0} (f : A → Run) (xs ys : List A) (n : ℕ) → IsPermutation xs ys → InRuns (map f xs) n → InRuns (map f ys) n
moved f xs ys n p i =
    let h = in_contains f xs n i in
    let there = Contains-permutation xs ys h.0 p h.1 in
    contains_in f ys n h.0 there.0 there.1 there.2 h.2

-- A permutation has the same numbers.
pub permuted : {A : Type 0} (f : A → Run) (xs ys : List A) → IsPermutation xs ys → (n : ℕ) → InRuns (map f ys) n ↔ InRuns (map f xs) n
permuted f xs ys p n = (moved f ys xs n (IsPermutation-sym xs ys p), moved f xs ys n p)

-- Blocks whose beginnings don't decrease ascend.
pub ascending : {A : Type 0} (f : A → Run) (xs : List A) → IsNonDecreasingBy (λ x. (f x).first) xs → AreAscending (map f xs)
ascending f [] h = tt
ascending f (x ∷ []) h = tt
ascending f (x ∷ y ∷ xs) h = (h 0 1 x (omega arith) (omega arith), ascending f (y ∷ xs) (λ i j d p q. h (suc i) (suc j) d (omega arith) (omega arith)))
