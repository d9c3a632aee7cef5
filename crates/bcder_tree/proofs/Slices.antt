-- A list by its first elements and the rest, as slice patterns have it.
use Rattle.std.proofs.Common.{◌≡◌, ℕ, ◌-◌, ◌≤◌, List, [], ◌∷◌, ◌++◌, length, get_or, take, drop, refl, arith, length-drop}
use Rattle.std.proofs.lemmas.List.{take_all}

pub rest_is : (k : ℕ) (s : List ℕ) → take (length s - k) (drop k s) ≡ drop k s
rest_is k s = take_all (length s - k) (drop k s) (omega (arith, length-drop k s))

pub first1 : (s : List ℕ) → 1 ≤ length s → s ≡ (get_or s 0 0 ∷ []) ++ drop 1 s
first1 [] h = absurd (omega arith)
first1 (a ∷ s) h = refl

pub first2 : (s : List ℕ) → 2 ≤ length s → s ≡ (get_or s 0 0 ∷ get_or s 1 0 ∷ []) ++ drop 2 s
first2 [] h = absurd (omega arith)
first2 (a ∷ []) h = absurd (omega arith)
first2 (a ∷ b ∷ s) h = refl

pub first3 : (s : List ℕ) → 3 ≤ length s → s ≡ (get_or s 0 0 ∷ get_or s 1 0 ∷ get_or s 2 0 ∷ []) ++ drop 3 s
first3 [] h = absurd (omega arith)
first3 (a ∷ []) h = absurd (omega arith)
first3 (a ∷ b ∷ []) h = absurd (omega arith)
first3 (a ∷ b ∷ c ∷ s) h = refl

pub first4 : (s : List ℕ) → 4 ≤ length s → s ≡ (get_or s 0 0 ∷ get_or s 1 0 ∷ get_or s 2 0 ∷ get_or s 3 0 ∷ []) ++ drop 4 s
first4 [] h = absurd (omega arith)
first4 (a ∷ []) h = absurd (omega arith)
first4 (a ∷ b ∷ []) h = absurd (omega arith)
first4 (a ∷ b ∷ c ∷ []) h = absurd (omega arith)
first4 (a ∷ b ∷ c ∷ d ∷ s) h = refl

pub first5 : (s : List ℕ) → 5 ≤ length s → s ≡ (get_or s 0 0 ∷ get_or s 1 0 ∷ get_or s 2 0 ∷ get_or s 3 0 ∷ get_or s 4 0 ∷ []) ++ drop 5 s
first5 [] h = absurd (omega arith)
first5 (a ∷ []) h = absurd (omega arith)
first5 (a ∷ b ∷ []) h = absurd (omega arith)
first5 (a ∷ b ∷ c ∷ []) h = absurd (omega arith)
first5 (a ∷ b ∷ c ∷ d ∷ []) h = absurd (omega arith)
first5 (a ∷ b ∷ c ∷ d ∷ e ∷ s) h = refl
