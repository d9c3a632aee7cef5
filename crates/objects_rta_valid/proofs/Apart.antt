-- Lists in which no place stands twice.
use Rattle.std.proofs.Common.{◌≡◌, ◌⊎◌, ℕ, zero, suc, ◌+◌, ◌<◌, ◌≤◌, ◌||◌, true, false, cond, nat_eq, List, [], ◌∷◌, ◌++◌, length, All, inl, inr, refl, sym, ap, ◌∙◌, arith}
use Rattle.std.proofs.lemmas.Bool.{both_ways, eq-eqb, eqb-true, false_from_ne_true, ne_eqb, or_cases, or_from, or_left, or_parts, or_right}
use Rattle.std.proofs.lemmas.List.Elements.{All-head, All-tail}
use Rattle.std.proofs.lemmas.List.Folds.{list_any-append}
use Rattle.objects_rta_valid.specs.Runs.{AreApart}
use Rattle.objects_rta_valid.specs.OnPaths.{has}
use Rattle.objects_rta_valid.proofs.Completing.{fresh, fresh_less}

-- Nothing of the one is in the other.
abbrev pub AreDisjoint : List ℕ → List ℕ → Type 0
AreDisjoint xs ys = (p : ℕ) → has xs p ≡ true → has ys p ≡ false

pub has_append : (xs ys : List ℕ) (p : ℕ) → has (xs ++ ys) p ≡ (has xs p || has ys p)
has_append xs ys p = list_any-append (nat_eq p) xs ys

pub has_head : (x : ℕ) (xs : List ℕ) → has (x ∷ xs) x ≡ true
has_head x xs = or_left (nat_eq x x) (has xs x) (eq-eqb x x refl)

pub has_behind : (x : ℕ) (xs : List ℕ) (p : ℕ) → has xs p ≡ true → has (x ∷ xs) p ≡ true
has_behind x xs p h = or_right (nat_eq p x) (has xs p) h

pub has_cases : (x : ℕ) (xs : List ℕ) (p : ℕ) → has (x ∷ xs) p ≡ true → (p ≡ x) ⊎ (has xs p ≡ true)
has_cases x xs p h = go (or_cases (nat_eq p x) (has xs p) h)
  where
    go : (nat_eq p x ≡ true) ⊎ (has xs p ≡ true) → (p ≡ x) ⊎ (has xs p ≡ true)
    go (inl e) = inl (eqb-true p x e)
    go (inr e) = inr e

pub has_either : (xs ys : List ℕ) (p : ℕ) → has (xs ++ ys) p ≡ true → (has xs p ≡ true) ⊎ (has ys p ≡ true)
has_either xs ys p h = or_cases (has xs p) (has ys p) (sym (has_append xs ys p) ∙ h)

pub has_left : (xs ys : List ℕ) (p : ℕ) → has xs p ≡ true → has (xs ++ ys) p ≡ true
has_left xs ys p h = has_append xs ys p ∙ or_left (has xs p) (has ys p) h

pub has_right : (xs ys : List ℕ) (p : ℕ) → has ys p ≡ true → has (xs ++ ys) p ≡ true
has_right xs ys p h = has_append xs ys p ∙ or_right (has xs p) (has ys p) h

pub apart_parts : (xs ys : List ℕ) → AreApart (xs ++ ys) → AreApart xs × AreApart ys × AreDisjoint xs ys
apart_parts [] ys h = (tt, h, λ p e. absurd cc)
apart_parts (x ∷ xs) ys h =
    let parts = or_parts (has xs x) (has ys x) (sym (has_append xs ys x) ∙ h.0) in
    let r = apart_parts xs ys h.1 in
    ((parts.0, r.0), r.1, λ p e. go p parts.1 (r.2 p) (has_cases x xs p e))
  where
    go : (p : ℕ) → has ys x ≡ false → (has xs p ≡ true → has ys p ≡ false) → (p ≡ x) ⊎ (has xs p ≡ true) → has ys p ≡ false
    go p f r (inl e) = ap (λ (z : ℕ). has ys z) e ∙ f
    go p f r (inr e) = r e

pub apart_from : (xs ys : List ℕ) → AreApart xs → AreApart ys → AreDisjoint xs ys → AreApart (xs ++ ys)
apart_from [] ys a b d = b
apart_from (x ∷ xs) ys a b d =
    (has_append xs ys x ∙ or_from (has xs x) (has ys x) a.0 (d x (has_head x xs)), apart_from xs ys a.1 b (λ p e. d p (has_behind x xs p e)))

pub disjoint_swap : (xs ys : List ℕ) → AreDisjoint xs ys → AreDisjoint ys xs
disjoint_swap xs ys d p e = false_from_ne_true (has xs p) (λ h. both_ways (has ys p) (d p h) e)

pub apart_push : (xs : List ℕ) (p : ℕ) → AreApart xs → has xs p ≡ false → AreApart (xs ++ p ∷ [])
apart_push xs p a n = apart_from xs (p ∷ []) a (refl, tt) apart
  where
    apart : AreDisjoint xs (p ∷ [])
    apart q h = or_from (nat_eq q p) false (ne_eqb q p (λ e. both_ways (has xs q) (ap (λ (z : ℕ). has xs z) e ∙ n) h)) refl

fresh_all : (n : ℕ) → fresh n [] ≤ n
fresh_all zero = omega arith
fresh_all (suc n) = let below : fresh n [] ≤ n = fresh_all n in let one : cond (has [] n) 0 1 ≤ 1 = omega arith in omega arith

-- So they are as many as there are places, at most.
apart_fits : (n : ℕ) (xs : List ℕ) → AreApart xs → All (λ p. p < n) xs → length xs + fresh n xs ≤ n
apart_fits n [] a h = let most = fresh_all n in let none : length {A = ℕ} [] ≡ 0 = refl in omega arith
apart_fits n (x ∷ xs) a h =
    let here : x < n = All-head (λ (p : ℕ). p < n) x xs h in
    let less = fresh_less n xs x here a.0 in
    let behind : length xs + fresh n xs ≤ n = apart_fits n xs a.1 (All-tail (λ (p : ℕ). p < n) x xs h) in
    let long : length (x ∷ xs) ≡ suc (length xs) = refl in
    omega arith

pub apart_few : (n : ℕ) (xs : List ℕ) → AreApart xs → All (λ p. p < n) xs → length xs ≤ n
apart_few n xs a h = let most = apart_fits n xs a h in omega arith
