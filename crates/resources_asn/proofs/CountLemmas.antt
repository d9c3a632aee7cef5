-- The numbers of runs.
use Rattle.std.proofs.Common.{◌≡◌, ℕ, ◌+◌, ◌-◌, ◌<◌, ◌≤◌, ◌⊎◌, List, [], ◌∷◌, map, inl, inr, refl, suc, zero, subst, sym, ap, ◌∙◌, arith, lit≤, length-append}
use Rattle.std.proofs.Math.Nat.{eq-or-lt_of_le}
use Rattle.std.proofs.lemmas.List.FromFn.{length-range_with_len}
use Rattle.std.specs.Prelude.{length}
use Rattle.std.specs.List.{range_with_len}
use Rattle.resources_asn.specs.resources_chain.Sets.{Run, InRun, InRuns, AreMaximal}
use Rattle.resources_asn.proofs.of_resources_chain.SetLemmas.{past_gap}
use Rattle.resources_asn.specs.Blocks.{as_run, as_run_within}
use Rattle.resources_asn.specs.declared.as_block.block.AsBlock.{AsBlock}
use Rattle.resources_asn.specs.Listed.{IsListOf}
use Rattle.resources_asn.specs.Counted.{run_count, runs_count, run_numbers, runs_numbers}
use Rattle.std.specs.Prelude.{Option, Some, None, MatchOption}
use Rattle.resources_asn.specs.Numbers.{Number, last_number}
use Rattle.resources_asn.specs.Left.{numbers_left}
use Rattle.resources_asn.proofs.ListLemmas.{list_cons, list_nil, list_append}

abbrev pub InSpan : ℕ → ℕ → ℕ → Type 0
InSpan first count n = (first ≤ n) × (n < first + count)

split_span : (first k n : ℕ) → InSpan first (suc k) n → (n ≡ first) ⊎ InSpan (first + 1) k n
split_span first k n i = elim (eq-or-lt_of_le i.0) [ inl e ↦ inl (sym e) | inr l ↦ inr (omega arith, omega arith) ]

pub range_list : (first count : ℕ) → IsListOf (InSpan first count) (range_with_len first count)
range_list first zero = list_nil (λ n i. omega arith)
range_list first (suc k) =
    list_cons first (range_with_len (first + 1) k) (range_list (first + 1) k) (λ n i. omega arith) (λ n. (λ i. split_span first k n i, λ s. elim s [ inl e ↦ (omega arith, omega arith) | inr i ↦ (omega arith, omega arith) ]))

-- The numbers of a run are its list.
pub run_list : (r : Run) → IsListOf (InRun r) (run_numbers r)
unfolding run_numbers
run_list r =
    let l = range_list r.first (run_count r) in
    record { ascending = l.ascending; same = λ n. (λ i. let s = (l.same n).0 i in (omega arith, omega arith), λ i. (l.same n).1 (omega arith, omega arith)) }

pub run_length : (r : Run) → length (run_numbers r) ≡ run_count r
unfolding run_numbers
run_length r = length-range_with_len r.first (run_count r)

-- The numbers of maximal runs are their list.
pub runs_list : (rs : List Run) → AreMaximal rs → IsListOf (InRuns rs) (runs_numbers rs)
runs_list [] m = list_nil (λ n i. absurd i)
runs_list (r ∷ rs) m =
    list_append (run_numbers r) (runs_numbers rs) (run_list r) (runs_list rs m.2) (λ a b i j. let h = past_gap r.last rs b m.1 j in omega arith) (λ n. (λ i. i, λ i. i))

pub runs_length : (rs : List Run) → length (runs_numbers rs) ≡ runs_count rs
runs_length [] = refl
runs_length (r ∷ rs) = omega (arith, length-append (run_numbers r) (runs_numbers rs), run_length r, runs_length rs)

pub run_first : (first last : ℕ) → first ≤ last → run_numbers (record { first = first; last = last }) ≡ first ∷ run_numbers (record { first = first + 1; last = last })
unfolding run_numbers
run_first first last h =
    let e : last + 1 - first ≡ suc (last + 1 - (first + 1)) = omega arith in
    ap (range_with_len first) e

pub run_none : (first last : ℕ) → last < first → run_numbers (record { first = first; last = last }) ≡ []
unfolding run_numbers
run_none first last h =
    let e : last + 1 - first ≡ 0 = omega arith in
    ap (range_with_len first) e

-- What is left after a number that is the last, and after one that isn't.
pub left_at_last : (a last : Number) → a.value ≡ last.value → numbers_left (Some a) last ≡ a.value ∷ []
left_at_last a last e = run_first a.value last.value (omega arith) ∙ ap (λ xs. a.value ∷ xs) (run_none (a.value + 1) last.value (omega arith))

pub left_behind : (a last : Number) (r : Option Number) → a.value ≤ last.value → (a.value ≡ last.value → ⊥) → MatchOption r (a.value ≡ last_number) (λ b. b.value ≡ a.value + 1) → numbers_left (Some a) last ≡ a.value ∷ numbers_left r last
left_behind a last None h ne m = let l = last.in_range in let e : a.value ≡ last_number = m in absurd (ne (omega arith))
left_behind a last (Some b) h ne m =
    let e : b.value ≡ a.value + 1 = m in
    run_first a.value last.value h ∙ ap (λ k. a.value ∷ run_numbers (record { first = k; last = last.value })) (sym e)

-- Maximal runs of AS numbers have no more numbers than there are.
count_from : (b : AsBlock) (bs : List AsBlock) → AreMaximal (as_run b ∷ map as_run bs) → (as_run b).first + runs_count (as_run b ∷ map as_run bs) ≤ 4294967296
count_from b [] m = let w = (as_run_within b).1 in let h = m.0 in omega arith
count_from b (c ∷ cs) m =
    let h : (as_run b).first ≤ (as_run b).last = m.0 in
    let apart : (as_run b).last + 1 < (as_run c).first = m.1.0 in
    let rest : (as_run c).first + runs_count (as_run c ∷ map as_run cs) ≤ 4294967296 = count_from c cs m.2 in
    omega arith

pub count_bound : (bs : List AsBlock) → AreMaximal (map as_run bs) → runs_count (map as_run bs) ≤ 4294967296
count_bound [] m = lit≤ tt
count_bound (b ∷ bs) m = let h = count_from b bs m in omega arith

-- One more block is counted.
pub count_more : (rest behind : List AsBlock) (b : AsBlock) (count total n : ℕ) → rest ≡ b ∷ behind → n + (as_run b).first ≡ (as_run b).last + 1 → count + runs_count (map as_run rest) ≡ total → (count + n) + runs_count (map as_run behind) ≡ total
count_more rest behind b count total n e c t =
    let whole : runs_count (map as_run rest) ≡ run_count (as_run b) + runs_count (map as_run behind) = ap (λ bs. runs_count (map as_run bs)) e in
    let w : (as_run b).first ≤ (as_run b).last = (as_run_within b).0 in
    omega arith

pub listed_at : (runs now : List Run) (numbers : List ℕ) → AreMaximal runs → runs ≡ now → numbers ≡ runs_numbers now → IsListOf (InRuns now) numbers
listed_at runs now numbers m e n =
    let P : List Run → Type 0 = λ rs. AreMaximal rs in
    let Q : List ℕ → Type 0 = λ ns. IsListOf (InRuns now) ns in
    subst Q (sym n) (runs_list now (subst P e m))
