-- Rows that ascend, around one that is sought.
use Rattle.std.proofs.Common.{◌≡◌, ℕ, zero, suc, ◌<◌, ◌⊎◌, inl, inr, List, [], ◌∷◌, length, get_or, map, Option, Some, None, refl, sym, ap, ◌∙◌, arith}
use Rattle.std.proofs.lemmas.Cmp.{tied_itself}
use Rattle.std.proofs.lemmas.List.{get_or-map, length-map}
use Rattle.std.proofs.lemmas.Map.Keys.{Less-from_sorted}
use Rattle.std.proofs.lemmas.Map.Lookups.{exact_bytes}
use Rattle.std.specs.Prelude.{MatchOption}
use Rattle.std.specs.declared.cmp.Ordering.{Ordering}
use Rattle.std.specs.declared.cmp.Ordering.TheVariants.{Less, Equal, Greater}
use Rattle.std.specs.Ordering.{nat_cmp, ordering_reverse}
use Rattle.std.specs.Cmp.Lexicographic.{slice_cmp, nat_list_cmp_total}
use Rattle.rpki_standing.specs.resources_chain.Rows.{IsOrdered}
use Rattle.rpki_standing.specs.rpki_bundle.Orders.{Ascends}
use Rattle.rpki_rules.specs.Words.{Mem}
use Rattle.rpki_standing.specs.Places.{IsPlace, stands_at}

-- Of two rows, the first before the second, the first is before any third or the second after it.
around : (a b key : List ℕ) (o : Ordering) → slice_cmp nat_cmp a b ≡ Less → slice_cmp nat_cmp a key ≡ o → (slice_cmp nat_cmp a key ≡ Less) ⊎ (slice_cmp nat_cmp b key ≡ Greater)
around a b key Less l e = inl e
around a b key Equal l e =
    let same : a ≡ key = exact_bytes a key e in
    inr (ap (slice_cmp nat_cmp b) (sym same) ∙ nat_list_cmp_total.antisymm b a ∙ ap ordering_reverse l)
around a b key Greater l e =
    let before : slice_cmp nat_cmp key a ≡ Less = nat_list_cmp_total.antisymm key a ∙ ap ordering_reverse e in
    inr (nat_list_cmp_total.antisymm b key ∙ ap ordering_reverse (nat_list_cmp_total.trans key a b before l))

pub ascends_ordered : {X : Type 0} (row : X → List ℕ) (xs : List X) (key : List ℕ) → Ascends row xs → IsOrdered (length xs) (stands_at row xs key)
ascends_ordered row xs key a = λ i j before inside.
    let less = Less-from_sorted (slice_cmp nat_cmp) (map row xs) i j key a before (omega (arith, inside, length-map xs row)) in
    around (get_or (map row xs) i key) (get_or (map row xs) j key) key (stands_at row xs key i) less refl

-- The row of the entry at a place.
pub row_at : {X : Type 0} (row : X → List ℕ) (xs : List X) (key : List ℕ) (k : ℕ) (x : X) → x ≡ get_or xs k x → k < length xs → get_or (map row xs) k key ≡ row x
row_at row xs key k x e inside = get_or-map row xs k x key inside ∙ ap row (sym e)

-- What halving answers.
pub place_told : {X : Type 0} (row : X → List ℕ) (xs : List X) (key : List ℕ) (r : Option ℕ)
    → MatchOption r ((k : ℕ) → k < length xs → stands_at row xs key k ≡ Equal → ⊥) (λ k. (k < length xs) × (stands_at row xs key k ≡ Equal))
    → MatchOption r ((k : ℕ) → IsPlace row xs key k → ⊥) (IsPlace row xs key)
place_told row xs key None h = λ k p. h k p.inside (ap (λ (z : List ℕ). slice_cmp nat_cmp z key) p.same ∙ tied_itself nat_list_cmp_total key)
place_told row xs key (Some k) h = record { inside = h.0; same = exact_bytes (get_or (map row xs) k key) key h.1 }

-- What is in the list has a place,
pub mem_place : {X : Type 0} (row : X → List ℕ) (xs : List X) (x : X) → Mem xs x → (k : ℕ) × ((key : List ℕ) → row x ≡ key → IsPlace row xs key k)
mem_place row [] x m = absurd m
mem_place row (y ∷ ys) x (inl e) = (0, λ key s. record { inside = omega arith; same = ap row e ∙ s })
mem_place row (y ∷ ys) x (inr m) =
    let r = mem_place row ys x m in
    (suc r.0, λ key s. let p = r.1 key s in record { inside = let l : r.0 < length ys = p.inside in omega arith; same = p.same })

-- and what has the place is in the list.
pub place_mem : {X : Type 0} (row : X → List ℕ) (xs : List X) (key : List ℕ) (k : ℕ) → IsPlace row xs key k → (x : X) × Mem xs x × (row x ≡ key)
place_mem row [] key k p = absurd (let l : k < 0 = p.inside in omega arith)
place_mem row (x ∷ xs) key zero p = (x, inl refl, p.same)
place_mem row (x ∷ xs) key (suc k) p =
    let r = place_mem row xs key k (record { inside = let l : suc k < length (x ∷ xs) = p.inside in omega arith; same = p.same }) in
    (r.0, inr r.1, r.2)
