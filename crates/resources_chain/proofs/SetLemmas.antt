-- Sets of numbers, by their maximal runs.
use Rattle.std.proofs.Common.{◌≡◌, ℕ, ◌+◌, ◌<◌, ◌≤◌, ◌⊎◌, ◌↔◌, Bool, true, IsTrue, length, map, nat_eq, List, [], ◌∷◌, ◌++◌, inl, inr, refl, sym, ap, ◌∙◌, subst, le_refl, arith}
use Rattle.std.proofs.Common.{eq-eqb}
use Rattle.std.proofs.lemmas.Bool.{eqb-true}
use Rattle.std.proofs.lemmas.List.{map-append}
use Rattle.resources_chain.specs.Sets.{Run, InRun, InRuns, StandsApart, AreMaximal, IsRunsOf, InEither, InBoth, InFirstOnly, IsInside}
use Rattle.resources_chain.specs.Same.{run_is, runs_eq, runs_eq_tells, one_answer}
use Rattle.resources_chain.proofs.RunLemmas.{le_or_lt}

-- A number is in the run or not.
pub run_decides : (r : Run) (n : ℕ) → InRun r n ⊎ (InRun r n → ⊥)
run_decides r n =
    elim (le_or_lt r.first n) [
      | inl low ↦ elim (le_or_lt n r.last) [ inl high ↦ inl (low, high) | inr past ↦ inr (λ i. let h : n ≤ r.last = i.1 in omega arith) ]
      | inr before ↦ inr (λ i. let h : r.first ≤ n = i.0 in omega arith)
    ]

-- A number is in the set or not.
pub decides : (rs : List Run) (n : ℕ) → InRuns rs n ⊎ (InRuns rs n → ⊥)
decides [] n = inr (λ i. i)
decides (r ∷ rs) n =
    elim (run_decides r n) [
      | inl i ↦ inl (inl i)
      | inr out ↦ elim (decides rs n) [ inl i ↦ inl (inr i) | inr o ↦ inr (λ i. elim i [ inl j ↦ out j | inr j ↦ o j ]) ]
    ]

-- A number of runs that stand apart from a number is past the gap.
pub past_gap : (k : ℕ) (rs : List Run) (n : ℕ) → StandsApart k rs → InRuns rs n → k + 1 < n
past_gap k [] n apart i = absurd i
past_gap k (r ∷ rs) n apart (inl i) = let a : k + 1 < r.first = apart.0 in let b : r.first ≤ n = i.0 in omega arith
past_gap k (r ∷ rs) n apart (inr i) = past_gap k rs n apart.1 i

-- The first number of maximal runs is the least.
pub least : (r : Run) (rs : List Run) (n : ℕ) → AreMaximal (r ∷ rs) → InRuns (r ∷ rs) n → r.first ≤ n
least r rs n m (inl i) = i.0
least r rs n m (inr i) = let a : r.first ≤ r.last = m.0 in let b : r.last + 1 < n = past_gap r.last rs n m.1 i in omega arith

last_within : (r s : Run) (rs ss : List Run) → AreMaximal (r ∷ rs) → AreMaximal (s ∷ ss) → r.first ≡ s.first → ((n : ℕ) → InRuns (s ∷ ss) n → InRuns (r ∷ rs) n) → s.last ≤ r.last
last_within r s rs ss m k e f =
    elim (le_or_lt s.last r.last) [
      | inl h ↦ h
      | inr h ↦ absurd (
          let a : r.first ≤ r.last = m.0 in
          elim (f (r.last + 1) (inl (omega arith, omega arith))) [
            | inl i ↦ let b : r.last + 1 ≤ r.last = i.1 in omega arith
            | inr i ↦ let b : r.last + 1 < r.last + 1 = past_gap r.last rs (r.last + 1) m.1 i in omega arith
          ])
    ]

rest_within : (r s : Run) (rs ss : List Run) → AreMaximal (r ∷ rs) → r.last ≡ s.last → ((n : ℕ) → InRuns (r ∷ rs) n → InRuns (s ∷ ss) n) → (n : ℕ) → InRuns rs n → InRuns ss n
rest_within r s rs ss m e f n i =
    elim (f n (inr i)) [
      | inl j ↦ absurd (let a : r.last + 1 < n = past_gap r.last rs n m.1 i in let b : n ≤ s.last = j.1 in omega arith)
      | inr j ↦ j
    ]

-- A set has one list of maximal runs.
pub one_list : (a b : List Run) → AreMaximal a → AreMaximal b → ((n : ℕ) → InRuns a n ↔ InRuns b n) → a ≡ b
one_list [] [] m k same = refl
one_list [] (s ∷ ss) m k same = absurd ((same s.first).1 (inl (le_refl _, k.0)))
one_list (r ∷ rs) [] m k same = absurd ((same r.first).0 (inl (le_refl _, m.0)))
one_list (r ∷ rs) (s ∷ ss) m k same =
    let low : s.first ≤ r.first = least s ss r.first k ((same r.first).0 (inl (le_refl _, m.0))) in
    let high : r.first ≤ s.first = least r rs s.first m ((same s.first).1 (inl (le_refl _, k.0))) in
    let firsts : r.first ≡ s.first = omega arith in
    let one : s.last ≤ r.last = last_within r s rs ss m k firsts (λ n. (same n).1) in
    let two : r.last ≤ s.last = last_within s r ss rs k m (sym firsts) (λ n. (same n).0) in
    let lasts : r.last ≡ s.last = omega arith in
    let runs : r ≡ s = run_is firsts lasts in
    let rests : rs ≡ ss = one_list rs ss m.2 k.2 (λ n. (rest_within r s rs ss m lasts (λ n. (same n).0) n, rest_within s r ss rs k (sym lasts) (λ n. (same n).1) n)) in
    cc

-- Equal lists are equal sets, both ways.
pub equal_sets : (a b : List Run) → AreMaximal a → AreMaximal b → (a ≡ b) ↔ ((n : ℕ) → InRuns a n ↔ InRuns b n)
equal_sets a b m k = (λ e n. (subst (λ (s : List Run). InRuns s n) e, subst (λ (s : List Run). InRuns s n) (sym e)), one_list a b m k)

-- The runs of a set are the runs of an equal one.
pub runs_of_equal : {P Q : ℕ → Type 0} {runs : List Run} → IsRunsOf P runs → ((n : ℕ) → P n ↔ Q n) → IsRunsOf Q runs
runs_of_equal r e = record { maximal = r.maximal; same = λ n. (λ i. (e n).0 ((r.same n).0 i), λ q. (r.same n).1 ((e n).1 q)) }

-- A set has one list of runs.
pub one_list_of : {P : ℕ → Type 0} {a b : List Run} → IsRunsOf P a → IsRunsOf P b → a ≡ b
one_list_of {a = a} {b} r s = one_list a b r.maximal s.maximal (λ n. (λ i. (s.same n).1 ((r.same n).0 i), λ i. (r.same n).1 ((s.same n).0 i)))

-- What decides whether two sets are one decides whether their lists are equal.
pub same_told : (told : Bool) (a b : List Run) → AreMaximal a → AreMaximal b → (IsTrue told ↔ ((n : ℕ) → InRuns a n ↔ InRuns b n)) → told ≡ runs_eq a b
same_told told a b m k t =
    let e = equal_sets a b m k in
    one_answer {P = a ≡ b} told (runs_eq a b) (λ h. e.1 (t.0 h), λ h. t.1 (e.0 h)) (runs_eq_tells a b)

pub same_told_at : {s t a b : List Run} (told : Bool) → s ≡ a → t ≡ b → AreMaximal s → AreMaximal t → (IsTrue told ↔ ((n : ℕ) → InRuns s n ↔ InRuns t n)) → told ≡ runs_eq a b
same_told_at {s} {t} {a} told e q m k h = same_told told s t m k h ∙ ap (λ (x : List Run). runs_eq x t) e ∙ ap (λ (x : List Run). runs_eq a x) q

-- Union: two lists, one after the other, have the numbers of either.
pub in_append : (a b : List Run) (n : ℕ) → InRuns (a ++ b) n ↔ InEither a b n
in_append [] b n = (λ i. inr i, λ i. elim i [ inl j ↦ absurd j | inr j ↦ j ])
in_append (r ∷ a) b n =
    let h = in_append a b n in (
      λ i. elim i [
        | inl j ↦ inl (inl j)
        | inr j ↦ elim (h.0 j) [ inl k ↦ inl (inr k) | inr k ↦ inr k ]
      ],
      λ i. elim i [
        | inl j ↦ elim j [ inl k ↦ inl k | inr k ↦ inr (h.1 (inl k)) ]
        | inr j ↦ inr (h.1 (inr j))
      ],
    )

-- No numbers, no blocks.
pub none_told : {A : Type 0} (f : A → Run) (xs : List A) (runs : List Run) (told : Bool) → map f xs ≡ runs → AreMaximal (map f xs) → told ≡ nat_eq (length xs) 0 → IsTrue told ↔ ((n : ℕ) → InRuns runs n → ⊥)
none_told f [] runs told e m t = (λ h n i. subst (λ (s : List Run). InRuns s n) (sym e) i, λ h. t ∙ eq-eqb 0 0 refl)
none_told f (x ∷ xs) runs told e m t = (
  λ h. absurd (let none : length (x ∷ xs) ≡ 0 = eqb-true (length (x ∷ xs)) 0 (sym t ∙ h) in omega arith),
  λ h. absurd (h (f x).first (subst (λ (s : List Run). InRuns s (f x).first) e (inl (le_refl _, m.0)))),
)

-- Runs of the blocks of two lists, one after the other, are the union.
pub runs_of_either : {A : Type 0} {all : List A} {a b c : List Run} (f : A → Run) (xs ys : List A) → IsRunsOf (InRuns (map f all)) c → all ≡ xs ++ ys → map f xs ≡ a → map f ys ≡ b → IsRunsOf (InEither a b) c
runs_of_either {all = all} {a} {b} f xs ys r e p q =
    let parts : map f all ≡ a ++ b = ap (map f) e ∙ map-append f xs ys ∙ ap (λ (s : List Run). s ++ map f ys) p ∙ ap (λ (s : List Run). a ++ s) q in
    runs_of_equal r (λ n. (λ i. (in_append a b n).0 (subst (λ (s : List Run). InRuns s n) parts i), λ i. subst (λ (s : List Run). InRuns s n) (sym parts) ((in_append a b n).1 i)))

-- One set is inside another exactly where nothing of it is outside.
pub inside_exactly : (a b : List Run) → IsInside a b ↔ ((n : ℕ) → InFirstOnly a b n → ⊥)
inside_exactly a b = (λ f n d. d.1 (f n d.0), λ f n i. elim (decides b n) [ inl j ↦ j | inr out ↦ absurd (f n (i, out)) ])

-- A set is what it has in common with another, and what it has alone.
pub both_or_only : (a b : List Run) (n : ℕ) → InRuns a n ↔ (InBoth a b n ⊎ InFirstOnly a b n)
both_or_only a b n = (λ i. elim (decides b n) [ inl j ↦ inl (i, j) | inr out ↦ inr (i, out) ], λ h. elim h [ inl j ↦ j.0 | inr j ↦ j.0 ])

-- The set without numbers has the empty list.
pub no_list : {a : List Run} → IsRunsOf (λ n. ⊥) a → a ≡ []
no_list {a} r = one_list a [] r.maximal tt (λ n. (λ i. (r.same n).0 i, λ i. absurd i))

-- A list of maximal runs that a test finds to have no numbers is that of the empty set.
pub empty_is : {empty listed chain : List Run} → IsRunsOf (λ n. ⊥) empty → listed ≡ chain → AreMaximal chain → (IsTrue true ↔ ((n : ℕ) → InRuns listed n → ⊥)) → empty ≡ chain
empty_is {empty} {chain = chain} r e m told =
    one_list empty chain r.maximal m (λ n. (λ i. absurd ((r.same n).0 i), λ i. absurd (told.0 refl n (subst (λ (s : List Run). InRuns s n) (sym e) i))))
