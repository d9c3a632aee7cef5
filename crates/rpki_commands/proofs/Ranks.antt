-- A list has one order in which it ascends.
use Rattle.std.proofs.Common.{◌≡◌, ℕ, zero, suc, ◌+◌, ◌<◌, ◌≤◌, Bool, false, if◌then◌else◌, List, [], ◌∷◌, length, get_or, map, sym, ap, ◌∙◌, subst, arith}
use Rattle.std.proofs.Math.ListN.{get_or-map}
use Rattle.std.proofs.lemmas.List.{get_or_default, length-map, same_lists}
use Rattle.std.proofs.lemmas.List.Sorted.{Contains-permutation, length_permutation, ranks_by, sorted_far, sum_by-IsPermutation}
use Rattle.std.proofs.lemmas.List.Sums.{sum_by-cons}
use Rattle.std.proofs.lemmas.Map.Keys.{Less-from_sorted}
use Rattle.std.specs.Cmp.Lexicographic.{slice_cmp, nat_list_cmp_total}
use Rattle.std.specs.List.{Contains, sum_by}
use Rattle.std.specs.List.Sorted.{IsPermutation}
use Rattle.std.specs.Ordering.{nat_cmp, is_lt}
use Rattle.rpki_commands.specs.rpki_bundle.Orders.{IsBefore, Ascends}
use Rattle.rpki_commands.specs.Folders.{IsSortedOn}

most : {X : Type 0} (f : X → ℕ) → ((x : X) → f x ≤ 1) → (xs : List X) (k : ℕ) → ((i : ℕ) (d : X) → k ≤ i → i < length xs → f (get_or xs i d) ≡ 0) → sum_by f xs ≤ k
most f one [] k h = omega arith
most f one (x ∷ xs) zero h =
    let first : f x ≡ 0 = h 0 x (omega arith) (omega arith) in
    omega (arith, sum_by-cons f x xs, first, most f one xs zero (λ i d a b. h (suc i) d (omega arith) (omega arith)))
most f one (x ∷ xs) (suc k) h =
    omega (arith, sum_by-cons f x xs, one x, most f one xs k (λ i d a b. h (suc i) d (omega arith) (omega arith)))

least : {X : Type 0} (f : X → ℕ) → (xs : List X) (k : ℕ) → k ≤ length xs → ((i : ℕ) (d : X) → i < k → 1 ≤ f (get_or xs i d)) → k ≤ sum_by f xs
least f xs zero s h = omega arith
least f [] (suc k) s h = absurd (omega arith)
least f (x ∷ xs) (suc k) s h =
    let first : 1 ≤ f x = h 0 x (omega arith) in
    omega (arith, sum_by-cons f x xs, first, least f xs k (omega arith) (λ i d a. h (suc i) d (omega arith)))

abbrev lt : List ℕ → List ℕ → Bool
lt a b = is_lt (slice_cmp nat_cmp a b)

-- one where it stands before the row, and one where the row doesn't stand before it
abbrev before : {X : Type 0} → (X → List ℕ) → List ℕ → X → ℕ
before row r x = if lt (row x) r then 1 else 0

abbrev not_behind : {X : Type 0} → (X → List ℕ) → List ℕ → X → ℕ
not_behind row r x = if lt r (row x) then 0 else 1

before_one : {X : Type 0} (row : X → List ℕ) (r : List ℕ) (x : X) → before row r x ≤ 1
before_one row r x = grind arith

not_behind_one : {X : Type 0} (row : X → List ℕ) (r : List ℕ) (x : X) → not_behind row r x ≤ 1
not_behind_one row r x = grind arith

stands : {X : Type 0} (row : X → List ℕ) (zs : List X) → Ascends row zs → (i j : ℕ) (d : X) → i < j → j < length zs → IsBefore (row (get_or zs i d)) (row (get_or zs j d))
stands row zs a i j d below small =
    let less = Less-from_sorted (slice_cmp nat_cmp) (map row zs) i j (row d) a below (omega (arith, length-map zs row)) in
    subst (λ (z : List ℕ). IsBefore z (row (get_or zs j d))) (get_or-map row zs i d) (subst (λ (z : List ℕ). IsBefore (get_or (map row zs) i (row d)) z) (get_or-map row zs j d) less)

-- places in a sorted list and in one that ascends
place : {X : Type 0} (row : X → List ℕ) (ys zs : List X) → IsPermutation ys zs → IsSortedOn row ys → Ascends row zs → (k j : ℕ) (d : X) → k < length ys → j < length zs → get_or ys k d ≡ get_or zs j d → k ≡ j
place {X} row ys zs p s a k j d ks js same =
    let r = row (get_or ys k d) in
    let rows : r ≡ row (get_or zs j d) = ap row same in
    let far = sorted_far (λ x y. lt (row x) (row y)) (ranks_by nat_list_cmp_total row) ys s in
    let low : sum_by (before row r) ys ≤ k = most (before row r) (before_one row r) ys k (λ i e from small.
    let f : lt (row (get_or ys i d)) r ≡ false = far k i d from small in
    let g : get_or ys i e ≡ get_or ys i d = get_or_default ys i e d small in
    ap (before row r) g ∙ ap (λ (b : Bool). if b then 1 else 0) f) in
    let high : k + 1 ≤ sum_by (not_behind row r) ys = least (not_behind row r) ys (k + 1) (omega arith) (λ i e small.
    let f : lt r (row (get_or ys i d)) ≡ false = far i k d (omega arith) ks in
    let g : get_or ys i e ≡ get_or ys i d = get_or_default ys i e d (omega arith) in
    let one : not_behind row r (get_or ys i e) ≡ 1 = ap (not_behind row r) g ∙ ap (λ (b : Bool). if b then 0 else 1) f in
    omega (arith, one)) in
    let up : j ≤ sum_by (before row r) zs = least (before row r) zs j (omega arith) (λ i e small.
    let f : IsBefore (row (get_or zs i d)) r = subst (IsBefore (row (get_or zs i d))) (sym rows) (stands row zs a i j d small js) in
    let g : get_or zs i e ≡ get_or zs i d = get_or_default zs i e d (omega arith) in
    let one : before row r (get_or zs i e) ≡ 1 = ap (before row r) g ∙ ap (λ o. if is_lt o then 1 else 0) f in
    omega (arith, one)) in
    let down : sum_by (not_behind row r) zs ≤ j + 1 = most (not_behind row r) (not_behind_one row r) zs (j + 1) (λ i e from small.
    let f : IsBefore r (row (get_or zs i d)) = subst (λ (z : List ℕ). IsBefore z (row (get_or zs i d))) (sym rows) (stands row zs a j i d (omega arith) small) in
    let g : get_or zs i e ≡ get_or zs i d = get_or_default zs i e d small in
    ap (not_behind row r) g ∙ ap (λ o. if is_lt o then 0 else 1) f) in
    omega (arith, low, high, up, down, sum_by-IsPermutation (before row r) ys zs p, sum_by-IsPermutation (not_behind row r) ys zs p)

pub one_order : {X : Type 0} (row : X → List ℕ) (ys zs : List X) → IsPermutation ys zs → IsSortedOn row ys → Ascends row zs → ys ≡ zs
one_order {X} row ys zs p s a =
    let size = length_permutation ys zs p in
    same_lists ys zs (sym size) (λ k d small.
    let x = get_or ys k d in
    let found : Contains zs x = Contains-permutation ys zs x p (k, small, get_or_default ys k x d small) in
    let here : x ≡ get_or zs found.0 d = sym found.2 ∙ get_or_default zs found.0 x d found.1 in
    let at = place row ys zs p s a k found.0 d small found.1 here in
    here ∙ ap (λ (n : ℕ). get_or zs n d) (sym at))
