-- Rows of 1000 octets.
use Rattle.std.proofs.Common.{◌≡◌, ℕ, ◌<◌, ◌≤◌, List, [], ◌∷◌, length, take, drop, zero, suc, refl, sym, ap, ◌∙◌, length-drop, arith}
use Rattle.std.proofs.lemmas.List.{take_all}
use Rattle.bcder_octets.specs.Segments.{rows, segments}

-- As many rows as there are octets are enough.
rows_enough : (n k : ℕ) (octets : List ℕ) → length octets ≤ n → length octets ≤ k → rows n octets ≡ rows k octets
unfolding rows
rows_enough zero zero octets p q = refl
rows_enough zero (suc k) [] p q = refl
rows_enough zero (suc k) (a ∷ v) p q = absurd (omega arith)
rows_enough (suc n) zero [] p q = refl
rows_enough (suc n) zero (a ∷ v) p q = absurd (omega arith)
rows_enough (suc n) (suc k) [] p q = refl
rows_enough (suc n) (suc k) (a ∷ v) p q = ap (λ (z : List (List ℕ)). take 1000 (a ∷ v) ∷ z) (rows_enough n k (drop 1000 (a ∷ v)) (omega (arith, length-drop 1000 (a ∷ v))) (omega (arith, length-drop 1000 (a ∷ v))))

pub no_rows : (octets : List ℕ) → length octets ≤ 0 → segments octets ≡ []
unfolding segments rows
no_rows [] h = refl
no_rows (a ∷ v) h = absurd (omega arith)

pub first_row : (octets : List ℕ) → 0 < length octets → segments octets ≡ take 1000 octets ∷ segments (drop 1000 octets)
unfolding segments rows
first_row [] h = absurd (omega arith)
first_row (a ∷ v) h = ap (λ (z : List (List ℕ)). take 1000 (a ∷ v) ∷ z) (rows_enough (length v) (length (drop 1000 (a ∷ v))) (drop 1000 (a ∷ v)) (omega (arith, length-drop 1000 (a ∷ v))) (omega arith))

none_behind : (k : ℕ) (s : List ℕ) → length s ≤ k → drop k s ≡ []
none_behind k s h = empty (drop k s) (omega (arith, length-drop k s))
  where
    empty : (z : List ℕ) → length z ≤ 0 → z ≡ []
    empty [] e = refl
    empty (y ∷ z) e = absurd (omega arith)

-- The last one.
pub last_row : (octets : List ℕ) → 0 < length octets → length octets ≤ 1000 → segments octets ≡ take (length octets) octets ∷ segments (drop (length octets) octets)
last_row octets some few =
    first_row octets some
    ∙ ap (λ (z : List ℕ). z ∷ segments (drop 1000 octets)) (take_all 1000 octets few ∙ sym (take_all (length octets) octets (omega arith)))
    ∙ ap (λ (z : List ℕ). take (length octets) octets ∷ segments z) (none_behind 1000 octets few ∙ sym (none_behind (length octets) octets (omega arith)))
