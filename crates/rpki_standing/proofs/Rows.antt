-- Rows of octets that ascend, and of which no two are equal.
use Rattle.std.proofs.Common.{◌≡◌, ℕ, ◌+◌, ◌-◌, ◌<◌, ◌≤◌, ◌⊎◌, inl, inr, Bool, true, false, List, [], ◌∷◌, length, get_or, map, Bor, refl, sym, ap, ◌∙◌, subst, arith}
use Rattle.std.proofs.lemmas.Bool.{cases_lt}
use Rattle.std.proofs.lemmas.Cmp.{tied_itself}
use Rattle.std.proofs.lemmas.List.{length-map, get_or-map}
use Rattle.std.proofs.lemmas.List.Sorted.{IsPermutation-map, IsPermutation-sym}
use Rattle.std.proofs.lemmas.Map.Keys.{sorted_from_all_adjacent, Less-from_sorted, IsDistinct-IsPermutation, IsDistinct-from_sorted, apart_from_distinct}
use Rattle.std.proofs.lemmas.Map.Lookups.{exact_bytes}
use Rattle.std.proofs.lemmas.Map.Views.{tells_apart}
use Rattle.std.specs.Prelude.{◌↔◌, IsTrue}
use Rattle.std.specs.declared.cmp.Ordering.{Ordering}
use Rattle.std.specs.declared.cmp.Ordering.TheVariants.{Less, Equal, Greater}
use Rattle.std.specs.List.{IsDistinct, AllByRecursion}
use Rattle.std.specs.List.Sorted.{IsSorted, IsPermutation, IsStrictlySortedBy}
use Rattle.std.specs.Ordering.{nat_cmp, ordering_reverse, eq_by_cmp, is_lt, is_eq}
use Rattle.std.specs.Cmp.Lexicographic.{slice_cmp, nat_list_cmp_total}
use Rattle.rpki_rules.specs.Words.{Mem, NoRepeat}

abbrev pub Row : Type 0
Row = List ℕ

abbrev pub order : Row → Row → Ordering
order = slice_cmp nat_cmp

abbrev pub same : Row → Row → Bool
same = eq_by_cmp order

abbrev pub now : Bor Row → Row
now n = n.now

-- Two rows that aren't equal differ by the order, and the other way round.
differs : (x y : Row) → (x ≡ y → ⊥) → same x y ≡ false
differs x y n = at (same x y) refl
  where
    at : (b : Bool) → same x y ≡ b → b ≡ false
    at true e = absurd (n (tells_apart exact_bytes x y e))
    at false e = refl

not_same : (x y : Row) → same x y ≡ false → x ≡ y → ⊥
not_same x y s e =
    let tied : order x y ≡ Equal = ap (order x) (sym e) ∙ tied_itself nat_list_cmp_total x in
    let wrong : true ≡ false = sym (ap is_eq tied) ∙ s in absurd cc

apart : (x : Row) (xs : List Row) → (Mem xs x → ⊥) → AllByRecursion (λ y. same x y ≡ false) xs
apart x [] n = tt
apart x (y ∷ ys) n = (differs x y (λ e. n (inl (sym e))), apart x ys (λ m. n (inr m)))

absent : (x : Row) (xs : List Row) → AllByRecursion (λ y. same x y ≡ false) xs → Mem xs x → ⊥
absent x [] a m = m
absent x (y ∷ ys) a (inl e) = not_same x y a.0 (sym e)
absent x (y ∷ ys) a (inr m) = absent x ys a.1 m

-- No two are equal, in the library's word.
distinct : (xs : List Row) → NoRepeat xs → IsDistinct same xs
unfolding IsDistinct
distinct [] n = tt
distinct (x ∷ xs) n = (apart x xs n.0, distinct xs n.1)

once : (xs : List Row) → IsDistinct same xs → NoRepeat xs
unfolding IsDistinct
once [] d = tt
once (x ∷ xs) d = (absent x xs d.0, once xs d.1)

flips : (x y : Row) → same x y ≡ same y x
flips x y = ap is_eq (nat_list_cmp_total.antisymm x y) ∙ at (order y x)
  where
    at : (o : Ordering) → is_eq (ordering_reverse o) ≡ is_eq o
    at Less = refl
    at Equal = refl
    at Greater = refl

-- A row that isn't after the next, and differs from it, is before it.
before : (a b : Row) → is_lt (order b a) ≡ false → same a b ≡ false → order a b ≡ Less
before a b sorted other = at (order a b) refl
  where
    at : (o : Ordering) → order a b ≡ o → o ≡ Less
    at Less e = refl
    at Equal e = let wrong : true ≡ false = sym (ap is_eq e) ∙ other in absurd cc
    at Greater e =
        let back : order b a ≡ Less = nat_list_cmp_total.antisymm b a ∙ ap ordering_reverse e in
        let wrong : true ≡ false = sym (ap is_lt back) ∙ sorted in absurd cc

rises : (xs : List Row) → IsSorted order xs → IsDistinct same xs → IsStrictlySortedBy order xs
rises xs sorted d =
    sorted_from_all_adjacent nat_list_cmp_total xs [] (λ k l.
    before (get_or xs k []) (get_or xs (k + 1) []) (sorted k [] (omega arith) l) (apart_from_distinct same xs k (k + 1) [] d (omega arith) l))

sorted_rows : (ns : List (Bor Row)) → IsSorted (λ (a b : Bor Row). order a.now b.now) ns → IsSorted order (map now ns)
sorted_rows [] s = λ k d low high. absurd (omega arith)
sorted_rows (n ∷ ns) s = λ k d low high.
    let short : k + 1 < length (n ∷ ns) = omega (arith, high, length-map (n ∷ ns) now) in
    let first = get_or-map now (n ∷ ns) k n d (omega arith) in
    let second = get_or-map now (n ∷ ns) (k + 1) n d short in
    subst (λ (z : Row). is_lt (order (get_or (map now (n ∷ ns)) (k + 1) d) z) ≡ false) (sym first) (subst (λ (z : Row). is_lt (order z (get_or (n ∷ ns) k n).now) ≡ false) (sym second) (s k n low short))

-- Sorted, they ascend exactly where no two were equal.
pub sorted_apart : (olds news seen : List (Bor Row)) (names : List Row) (answer : Bool) → map now olds ≡ names → IsPermutation olds news → IsSorted (λ (a b : Bor Row). order a.now b.now) news
    → seen ≡ news → (IsTrue answer ↔ IsStrictlySortedBy order (map now seen)) → IsTrue answer ↔ NoRepeat names
sorted_apart olds news seen names answer e moved sorted s tells =
    let rows = map now news in
    let told : IsTrue answer ↔ IsStrictlySortedBy order rows = subst (λ (ns : List (Bor Row)). IsTrue answer ↔ IsStrictlySortedBy order (map now ns)) s tells in
    let there : IsPermutation names rows = subst (λ (ns : List Row). IsPermutation ns rows) e (IsPermutation-map now olds news moved) in (
      λ t. once names (IsDistinct-IsPermutation same flips rows names (IsPermutation-sym names rows there) (IsDistinct-from_sorted order rows (told.0 t))),
      λ n. told.1 (rises rows (sorted_rows news sorted) (IsDistinct-IsPermutation same flips names rows there (distinct names n))),
    )

-- Each of the first n but the last is before the next.
pub record RisesBelow (xs : List Row) (n : ℕ) : Type 0 where
  pub each : (k : ℕ) (d : Row) → k + 1 < n → order (get_or xs k d) (get_or xs (k + 1) d) ≡ Less

pub rises_begin : (xs : List Row) → RisesBelow xs 1
rises_begin xs = record { each = λ k d h. absurd (omega arith) }

-- The row at a place.
row_at : (ns : List (Bor Row)) (k : ℕ) (d : Row) (e : Bor Row) → k < length ns → get_or (map now ns) k d ≡ (get_or ns k e).now
row_at ns k d e inside = get_or-map now ns k e d inside

-- One more is before the next.
pub rises_next : (ns : List (Bor Row)) (i : ℕ) (e : Bor Row) → 1 ≤ i → i < length ns → order (get_or ns (i - 1) e).now (get_or ns i e).now ≡ Less → RisesBelow (map now ns) i → RisesBelow (map now ns) (i + 1)
rises_next ns i e one small less r = record { each = λ k d h. at k d h (cases_lt (k + 1) i) }
  where
    at : (k : ℕ) (d : Row) → k + 1 < i + 1 → (k + 1 < i) ⊎ (i ≤ k + 1) → order (get_or (map now ns) k d) (get_or (map now ns) (k + 1) d) ≡ Less
    at k d h (inl lt) = r.each k d lt
    at k d h (inr ge) =
        let place : i - 1 ≡ k = omega arith in
        let next : i ≡ k + 1 = omega arith in
        let first : (get_or ns (i - 1) e).now ≡ get_or (map now ns) k d = ap (λ (n : ℕ). (get_or ns n e).now) place ∙ sym (row_at ns k d e (omega arith)) in
        let second : (get_or ns i e).now ≡ get_or (map now ns) (k + 1) d = ap (λ (n : ℕ). (get_or ns n e).now) next ∙ sym (row_at ns (k + 1) d e (omega arith)) in
        subst (λ (z : Row). order z (get_or (map now ns) (k + 1) d) ≡ Less) first (subst (λ (z : Row). order (get_or ns (i - 1) e).now z ≡ Less) second less)

pub rises_end : (xs : List Row) (n : ℕ) → RisesBelow xs n → length xs ≤ n → IsStrictlySortedBy order xs
rises_end xs n r h = sorted_from_all_adjacent nat_list_cmp_total xs [] (λ k l. r.each k [] (omega arith))

-- Where one isn't before the next, they don't ascend.
pub rises_not : (ns : List (Bor Row)) (i : ℕ) (e : Bor Row) → 1 ≤ i → i < length ns → (order (get_or ns (i - 1) e).now (get_or ns i e).now ≡ Less → ⊥) → IsStrictlySortedBy order (map now ns) → ⊥
rises_not ns i e one small behind a =
    let less = Less-from_sorted order (map now ns) (i - 1) i [] a (omega arith) (omega (arith, small, length-map ns now)) in
    behind (subst (λ (z : Row). order z (get_or ns i e).now ≡ Less) (row_at ns (i - 1) [] e (omega arith)) (subst (λ (z : Row). order (get_or (map now ns) (i - 1) []) z ≡ Less) (row_at ns i [] e small) less))
