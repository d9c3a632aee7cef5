-- Places of lists of runs.
use Rattle.std.proofs.Common.{◌≡◌, ◌≢◌, ℕ, zero, suc, ◌+◌, ◌-◌, ◌<◌, ◌≤◌, ◌⊎◌, ◌&&◌, Bool, true, false, not, cond, List, [], ◌∷◌, length, map, take, drop, Option, Some, None, MatchOption, IsTrue, ◌↔◌, is_some, inl, inr, refl, sym, ap, subst, ◌∙◌, arith}
use Rattle.std.proofs.lemmas.Bool.{lt-ltb, le-ltb, ltb-true, ltb-false}
use Rattle.std.proofs.lemmas.List.{length-map, length-drop, drop-map}
use Rattle.std.proofs.Math.Seq.{take-length, drop-length}
use Rattle.std.proofs.Math.Dec.{ltb}
use Rattle.std.specs.declared.cmp.Ordering.{Ordering}
use Rattle.std.specs.declared.cmp.Ordering.TheVariants.{Less, Equal, Greater}
use Rattle.resources_chain.specs.Sets.{Run, InRun, InRuns, StandsApart, AreMaximal}
use Rattle.resources_chain.specs.Places.{run_at, stand, reach}
use Rattle.resources_chain.specs.Rows.{IsOrdered}
use Rattle.resources_chain.specs.Walks.{SameFrom, FirstReaches}
use Rattle.resources_chain.proofs.RunLemmas.{le_or_lt}
use Rattle.resources_chain.proofs.WalkLemmas.{skip_first}

-- The second choice is made where the first isn't.
picks : (a b : Bool) (x y z : Ordering) → a ≡ false → cond a x (cond b y z) ≡ cond b y z
picks true b x y z e = absurd cc
picks false b x y z e = refl

first_picked : (a b : Bool) (x y z : Ordering) → a ≡ true → cond a x (cond b y z) ≡ x
first_picked true b x y z e = refl
first_picked false b x y z e = absurd cc

one_picked : (b : Bool) (y z : Ordering) → b ≡ true → cond b y z ≡ y
one_picked true y z e = refl
one_picked false y z e = absurd cc

other_picked : (b : Bool) (y z : Ordering) → b ≡ false → cond b y z ≡ z
other_picked true y z e = absurd cc
other_picked false y z e = refl

equal_picked : (a b : Bool) → cond a Less (cond b Greater Equal) ≡ Equal → (a ≡ false) × (b ≡ false)
equal_picked true b e = absurd cc
equal_picked false true e = absurd cc
equal_picked false false e = (refl, refl)

pub stand_less : (n : ℕ) (r : Run) → r.last < n → stand n r ≡ Less
stand_less n r h = first_picked (ltb r.last n) (ltb n r.first) Less Greater Equal (lt-ltb r.last n h)

pub stand_greater : (n : ℕ) (r : Run) → n ≤ r.last → n < r.first → stand n r ≡ Greater
stand_greater n r h l = picks (ltb r.last n) (ltb n r.first) Less Greater Equal (le-ltb r.last n h) ∙ one_picked (ltb n r.first) Greater Equal (lt-ltb n r.first l)

pub stand_equal : (n : ℕ) (r : Run) → InRun r n → stand n r ≡ Equal
stand_equal n r i = picks (ltb r.last n) (ltb n r.first) Less Greater Equal (le-ltb r.last n i.1) ∙ other_picked (ltb n r.first) Greater Equal (le-ltb n r.first i.0)

pub equal_stands : (n : ℕ) (r : Run) → stand n r ≡ Equal → InRun r n
equal_stands n r e =
    let p = equal_picked (ltb r.last n) (ltb n r.first) e in
    (ltb-false n r.first p.1, ltb-false r.last n p.0)

starts : (k : ℕ) (rs : List Run) (j : ℕ) → StandsApart k rs → j < length rs → k + 1 < (run_at rs j).first
starts k [] j a h = absurd (omega arith)
starts k (r ∷ rs) zero a h = a.0
starts k (r ∷ rs) (suc j) a h = starts k rs j a.1 (omega arith)

-- A run ends before those at later places begin.
apart_at : (rs : List Run) (i j : ℕ) → AreMaximal rs → i < j → j < length rs → (run_at rs i).last + 1 < (run_at rs j).first
apart_at [] i j m l h = absurd (omega arith)
apart_at (r ∷ rs) i zero m l h = absurd (omega arith)
apart_at (r ∷ rs) zero (suc j) m l h = starts r.last rs j m.1 (omega arith)
apart_at (r ∷ rs) (suc i) (suc j) m l h = apart_at rs i j m.2 (omega arith) (omega arith)

whole_at : (rs : List Run) (k : ℕ) → AreMaximal rs → k < length rs → (run_at rs k).first ≤ (run_at rs k).last
whole_at [] k m h = absurd (omega arith)
whole_at (r ∷ rs) zero m h = m.0
whole_at (r ∷ rs) (suc k) m h = whole_at rs k m.2 (omega arith)

-- A number of the runs is in the run at some place.
in_at : (rs : List Run) (n : ℕ) → InRuns rs n → (k : ℕ) × (k < length rs) × InRun (run_at rs k) n
in_at [] n i = absurd i
in_at (r ∷ rs) n (inl i) = (0, omega arith, i)
in_at (r ∷ rs) n (inr i) = let p = in_at rs n i in (suc p.0, let h = p.1 in omega arith, p.2)

pub around_ordered : (rs : List Run) (n size : ℕ) → AreMaximal rs → size ≡ length rs → IsOrdered size (λ k. stand n (run_at rs k))
around_ordered rs n size m e i j l h =
    let apart = apart_at rs i j m l (omega arith) in
    let whole = whole_at rs j m (omega arith) in
    elim (le_or_lt n (run_at rs i).last) [
      | inl past ↦ inr (stand_greater n (run_at rs j) (omega arith) (omega arith))
      | inr before ↦ inl (stand_less n (run_at rs i) before)
    ]

-- No run at any place has the number.
pub around_none : (rs : List Run) (n size : ℕ) → size ≡ length rs → ((k : ℕ) → k < size → stand n (run_at rs k) ≢ Equal) → InRuns rs n → ⊥
around_none rs n size e none i = let p = in_at rs n i in none p.0 (let h = p.1 in omega arith) (stand_equal n (run_at rs p.0) p.2)

pub reach_less : (n : ℕ) (rs : List Run) (k : ℕ) → (run_at rs k).last < n → reach n rs k ≡ Less
reach_less n rs k h = first_picked (ltb (run_at rs k).last n) (ltb 0 k && not (ltb (run_at rs (k - 1)).last n)) Less Greater Equal (lt-ltb (run_at rs k).last n h)

both : (a b : Bool) → a ≡ true → b ≡ false → a && not b ≡ true
both true true e q = absurd cc
both true false e q = refl
both false b e q = absurd cc

either : (a b : Bool) → (a ≡ false) ⊎ (b ≡ true) → a && not b ≡ false
either true true e = refl
either true false (inl e) = absurd cc
either true false (inr e) = absurd cc
either false b e = refl

told_either : (a b : Bool) → a && not b ≡ false → (a ≡ false) ⊎ (b ≡ true)
told_either true true e = inr refl
told_either true false e = absurd cc
told_either false b e = inl refl

pub reach_greater : (n : ℕ) (rs : List Run) (k : ℕ) → n ≤ (run_at rs k).last → 0 < k → n ≤ (run_at rs (k - 1)).last → reach n rs k ≡ Greater
reach_greater n rs k h some l =
    let before = ltb 0 k && not (ltb (run_at rs (k - 1)).last n) in
    picks (ltb (run_at rs k).last n) before Less Greater Equal (le-ltb (run_at rs k).last n h)
    ∙ one_picked before Greater Equal (both (ltb 0 k) (ltb (run_at rs (k - 1)).last n) (lt-ltb 0 k some) (le-ltb (run_at rs (k - 1)).last n l))

pub reach_equal : (n : ℕ) (rs : List Run) (k : ℕ) → n ≤ (run_at rs k).last → (k ≡ 0) ⊎ ((run_at rs (k - 1)).last < n) → reach n rs k ≡ Equal
reach_equal n rs k h l =
    let before = ltb 0 k && not (ltb (run_at rs (k - 1)).last n) in
    let told : (ltb 0 k ≡ false) ⊎ (ltb (run_at rs (k - 1)).last n ≡ true) = elim l [ inl e ↦ inl (le-ltb 0 k (omega arith)) | inr b ↦ inr (lt-ltb (run_at rs (k - 1)).last n b) ] in
    picks (ltb (run_at rs k).last n) before Less Greater Equal (le-ltb (run_at rs k).last n h)
    ∙ other_picked before Greater Equal (either (ltb 0 k) (ltb (run_at rs (k - 1)).last n) told)

equal_reaches : (n : ℕ) (rs : List Run) (k : ℕ) → reach n rs k ≡ Equal → (n ≤ (run_at rs k).last) × ((k ≡ 0) ⊎ ((run_at rs (k - 1)).last < n))
equal_reaches n rs k e =
    let p = equal_picked (ltb (run_at rs k).last n) (ltb 0 k && not (ltb (run_at rs (k - 1)).last n)) e in (
      ltb-false (run_at rs k).last n p.0,
      elim (told_either (ltb 0 k) (ltb (run_at rs (k - 1)).last n) p.1) [
        | inl t ↦ inl (let h = ltb-false 0 k t in omega arith)
        | inr t ↦ inr (ltb-true (run_at rs (k - 1)).last n t)
      ],
    )

-- A run ends no later than those at later places.
ends_at : (rs : List Run) (i j : ℕ) → AreMaximal rs → i ≤ j → j < length rs → (run_at rs i).last ≤ (run_at rs j).last
ends_at rs i j m l h =
    elim (le_or_lt j i) [
      | inl at ↦ let e : i ≡ j = omega arith in subst (λ (k : ℕ). (run_at rs i).last ≤ (run_at rs k).last) e (omega arith)
      | inr before ↦ let a = apart_at rs i j m before h in let w = whole_at rs j m h in omega arith
    ]

pub reaching_ordered : (rs : List Run) (n size : ℕ) → AreMaximal rs → size ≡ length rs → IsOrdered size (reach n rs)
reaching_ordered rs n size m e i j l h =
    let here = ends_at rs i j m (omega arith) (omega arith) in
    let before_it = ends_at rs i (j - 1) m (omega arith) (omega arith) in
    elim (le_or_lt n (run_at rs i).last) [
      | inl past ↦ inr (reach_greater n rs j (omega arith) (omega arith) (omega arith))
      | inr before ↦ inl (reach_less n rs i before)
    ]

-- Runs that end before the number are left out.
left_out : {n : ℕ} {old : List Run} (rs : List Run) (k : ℕ) → SameFrom n old rs → ((j : ℕ) → j < k → j < length rs → (run_at rs j).last < n) → SameFrom n old (drop k rs)
left_out rs zero s f = s
left_out [] (suc k) s f = s
left_out (r ∷ rs) (suc k) s f = left_out rs k (skip_first s (f 0 (omega arith) (omega arith))) (λ j l h. f (suc j) (omega arith) (omega arith))

same_itself : (n : ℕ) (rs : List Run) → AreMaximal rs → SameFrom n rs rs
same_itself n rs m = record { maximal = m; same = λ k h. (λ i. i, λ i. i) }

first_reached : (n : ℕ) (rs : List Run) (k : ℕ) → k < length rs → n ≤ (run_at rs k).last → FirstReaches n (drop k rs)
first_reached n [] k h l = absurd (omega arith)
first_reached n (r ∷ rs) zero h l = l
first_reached n (r ∷ rs) (suc k) h l = first_reached n rs k (omega arith) l

-- The first place that reaches the number is found.
pub reached_same : (rs : List Run) (n size k : ℕ) → AreMaximal rs → size ≡ length rs → k < size → reach n rs k ≡ Equal → SameFrom n rs (drop k rs)
reached_same rs n size k m e h r =
    let p = equal_reaches n rs k r in
    left_out rs k (same_itself n rs m) (λ j l w. elim p.1 [
      | inl none ↦ absurd (omega arith)
      | inr before ↦ let up = ends_at rs j (k - 1) m (omega arith) (omega arith) in omega arith
    ])

pub reached_first : (rs : List Run) (n size k : ℕ) → size ≡ length rs → k < size → reach n rs k ≡ Equal → FirstReaches n (drop k rs)
reached_first rs n size k e h r = first_reached n rs k (omega arith) (equal_reaches n rs k r).0

-- Where no place is the first that reaches the number, all end before it.
none_reaches : (rs : List Run) (n size k : ℕ) → ((j : ℕ) → j < size → reach n rs j ≢ Equal) → k < size → (run_at rs k).last < n
none_reaches rs n size zero none h =
    elim (le_or_lt n (run_at rs 0).last) [
      | inl past ↦ absurd (none 0 h (reach_equal n rs 0 past (inl refl)))
      | inr before ↦ before
    ]
none_reaches rs n size (suc k) none h =
    let before_it = none_reaches rs n size k none (omega arith) in
    elim (le_or_lt n (run_at rs (suc k)).last) [
      | inl past ↦ absurd (none (suc k) h (reach_equal n rs (suc k) past (inr (let e : suc k - 1 ≡ k = omega arith in subst (λ (j : ℕ). (run_at rs j).last < n) (sym e) before_it))))
      | inr before ↦ before
    ]

pub none_same : (rs : List Run) (n size : ℕ) → AreMaximal rs → size ≡ length rs → ((j : ℕ) → j < size → reach n rs j ≢ Equal) → SameFrom n rs []
none_same rs n size m e none =
    subst (λ (s : List Run). SameFrom n rs s) (drop-length rs)
    (left_out rs (length rs) (same_itself n rs m) (λ j l h. none_reaches rs n size j none (omega arith)))

-- The first places are in order, and where none of them is the first that reaches the number, though the last of them
-- reaches it or is the last of all, no place is.
pub near_ordered : (rs : List Run) (n near : ℕ) → AreMaximal rs → near ≤ length rs → IsOrdered near (reach n rs)
near_ordered rs n near m w i j l h = reaching_ordered rs n (length rs) m refl i j l (omega arith)

pub none_near : (rs : List Run) (n near : ℕ) → AreMaximal rs → (near ≡ length rs) ⊎ ((k : ℕ) × (near ≡ k + 1) × (n ≤ (run_at rs k).last)) → ((j : ℕ) → j < near → reach n rs j ≢ Equal) → SameFrom n rs []
none_near rs n near m (inl all) none = none_same rs n near m all none
none_near rs n near m (inr (k, e, past)) none = absurd (let before = none_reaches rs n near k none (omega arith) in omega arith)

-- The runs of the elements from a place on.
pub rest_runs : {A : Type 0} (f : A → Run) (xs : List A) (k : ℕ) → map f (take (length xs - k) (drop k xs)) ≡ drop k (map f xs)
rest_runs f xs k = ap (map f) (ap (λ (j : ℕ). take j (drop k xs)) (sym (length-drop k xs)) ∙ take-length (drop k xs)) ∙ sym (drop-map f k xs)

-- The runs up to one that ends before the number are left out.
pub leapt : {A : Type 0} (f : A → Run) (xs : List A) {old : List Run} (n k : ℕ) → SameFrom n old (map f xs) → k < length xs → (run_at (map f xs) k).last < n → SameFrom n old (map f (take (length xs - (k + 1)) (drop (k + 1) xs)))
leapt f xs {old} n k s h l =
    let size : length (map f xs) ≡ length xs = length-map xs f in
    subst (λ (rs : List Run). SameFrom n old rs) (sym (rest_runs f xs (k + 1)))
    (left_out (map f xs) (k + 1) s (λ j w v. let up = ends_at (map f xs) j k s.maximal (omega arith) (omega arith) in omega arith))

pub leapt_fewer : {A : Type 0} (xs : List A) (k most : ℕ) → length xs ≤ most → length (take (length xs - (k + 1)) (drop (k + 1) xs)) ≤ most
leapt_fewer xs k most h =
    let e : take (length xs - (k + 1)) (drop (k + 1) xs) ≡ drop (k + 1) xs = ap (λ (j : ℕ). take j (drop (k + 1) xs)) (sym (length-drop (k + 1) xs)) ∙ take-length (drop (k + 1) xs) in
    omega (arith, ap length e, length-drop (k + 1) xs)

-- Looking around has found what it says.
pub around_told : {A : Type 0} (f : A → Run) (xs : List A) (n : ℕ) (o : Option ℕ) → MatchOption o ((k : ℕ) → k < length xs → stand n (run_at (map f xs) k) ≢ Equal) (λ k. (k < length xs) × (stand n (run_at (map f xs) k) ≡ Equal))
    → MatchOption o (InRuns (map f xs) n → ⊥) (λ k. (k < length xs) × InRun (run_at (map f xs) k) n)
around_told f xs n None h = around_none (map f xs) n (length xs) (sym (length-map xs f)) h
around_told f xs n (Some k) h = (h.0, equal_stands n (run_at (map f xs) k) h.1)

in_place : (rs : List Run) (n k : ℕ) → k < length rs → InRun (run_at rs k) n → InRuns rs n
in_place [] n k h i = absurd (omega arith)
in_place (r ∷ rs) n zero h i = inl i
in_place (r ∷ rs) n (suc k) h i = inr (in_place rs n k (omega arith) i)

-- A place that is found shows that the runs have the number.
pub found_told : (told : Bool) (o : Option ℕ) (rs : List Run) (n : ℕ) → MatchOption o (InRuns rs n → ⊥) (λ k. (k < length rs) × InRun (run_at rs k) n) → told ≡ is_some o → IsTrue told ↔ InRuns rs n
found_told told None rs n h e = (λ t. absurd (let wrong : true ≡ false = sym t ∙ e in cc), λ i. absurd (h i))
found_told told (Some k) rs n h e = (λ t. in_place rs n k h.0 h.1, λ i. e)
