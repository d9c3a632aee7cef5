-- Sets of AS numbers as ascending lists.
use Rattle.std.proofs.Common.{◌≡◌, ℕ, ◌<◌, ◌≤◌, ◌⊎◌, ◌↔◌, Bool, true, false, IsTrue, List, [], ◌∷◌, inl, inr, refl, suc, zero, sym, subst, ap, ◌∙◌, arith, get_or}
use Rattle.std.specs.Prelude.{length, Result, Ok, Err, is_ok}
use Rattle.std.specs.List.{Contains, dedup}
use Rattle.std.specs.List.Sorted.{IsPermutation, IsStrictlySortedBy, IsSorted, IsNonDecreasingBy, IsBinarySearchResult, IsPartitionPoint, IsSearchInRange}
use Rattle.std.specs.List.Retain.{IsFiltered, DiffersFromLast}
use Rattle.std.specs.Ordering.{nat_cmp, ordering_index, on}
use Rattle.std.specs.Cmp.{nat_cmp_total, on_total, unsigned_ties, nat_eq_equiv, on_equiv}
use Rattle.std.specs.declared.cmp.Ordering.{Ordering}
use Rattle.std.specs.declared.cmp.Ordering.TheVariants.{Less, Equal, Greater}
use Rattle.std.proofs.lemmas.Bool.{eqb-true, cases_lt}
use Rattle.std.proofs.lemmas.Cmp.{ranked}
use Rattle.std.proofs.lemmas.Bool.Decides.{nat_tests}
use Rattle.std.proofs.lemmas.List.Filters.{dedup_is}
use Rattle.std.proofs.lemmas.List.Kept.{IsStrictlySortedBy-dedup, Contains-dedup, Contains-from_dedup}
use Rattle.std.proofs.lemmas.List.Sorted.{Contains-permutation, IsPermutation-sym}
use Rattle.resources_asn.specs.Numbers.{Number, same_number}
use Rattle.resources_asn.specs.Listed.{InList, IsBelow, IsAscending, IsListOf, is_same}
use Rattle.resources_asn.specs.Chosen.{values, has, chooses, is_chosen, passing}
use Rattle.resources_asn.specs.declared.selection.Choice.{Choice}
use Rattle.resources_asn.specs.declared.selection.Choice.TheVariants.{Either, Both, FirstOnly, OneOnly}
use Rattle.resources_asn.proofs.ListLemmas.{below_each}
use Rattle.resources_asn.proofs.ChosenLemmas.{has_in, in_has, passing_list}

-- What a choice says of the lists that have a number.
tells_either : {X Y : Type 0} (b c : Bool) → ((b ≡ true) ↔ X) → ((c ≡ true) ↔ Y) → (chooses Either b c ≡ true) ↔ (X ⊎ Y)
tells_either true c f g = (λ e. inl (f.0 refl), λ s. refl)
tells_either false true f g = (λ e. inr (g.0 refl), λ s. refl)
tells_either false false f g = (λ e. absurd cc, λ s. elim s [ inl x ↦ f.1 x | inr y ↦ g.1 y ])

tells_both : {X Y : Type 0} (b c : Bool) → ((b ≡ true) ↔ X) → ((c ≡ true) ↔ Y) → (chooses Both b c ≡ true) ↔ (X × Y)
tells_both true true f g = (λ e. (f.0 refl, g.0 refl), λ s. refl)
tells_both true false f g = (λ e. absurd cc, λ s. g.1 s.1)
tells_both false c f g = (λ e. absurd cc, λ s. f.1 s.0)

tells_first : {X Y : Type 0} (b c : Bool) → ((b ≡ true) ↔ X) → ((c ≡ true) ↔ Y) → (chooses FirstOnly b c ≡ true) ↔ (X × ¬ Y)
tells_first true true f g = (λ e. absurd cc, λ s. absurd (s.1 (g.0 refl)))
tells_first true false f g = (λ e. (f.0 refl, λ y. let h : false ≡ true = g.1 y in cc), λ s. refl)
tells_first false c f g = (λ e. absurd cc, λ s. f.1 s.0)

tells_one : {X Y : Type 0} (b c : Bool) → ((b ≡ true) ↔ X) → ((c ≡ true) ↔ Y) → (chooses OneOnly b c ≡ true) ↔ ((X × ¬ Y) ⊎ (Y × ¬ X))
tells_one true true f g = (λ e. absurd cc, λ s. elim s [ inl p ↦ absurd (p.1 (g.0 refl)) | inr p ↦ absurd (p.1 (f.0 refl)) ])
tells_one true false f g = (λ e. inl (f.0 refl, λ y. let h : false ≡ true = g.1 y in cc), λ s. refl)
tells_one false true f g = (λ e. inr (g.0 refl, λ x. let h : false ≡ true = f.1 x in cc), λ s. refl)
tells_one false false f g = (λ e. absurd cc, λ s. elim s [ inl p ↦ f.1 p.0 | inr p ↦ g.1 p.0 ])

has_tells : (xs : List ℕ) (n : ℕ) → (has xs n ≡ true) ↔ InList xs n
has_tells xs n = (has_in xs n, in_has xs n)

values_bound : (us : List Number) (n : ℕ) → InList (values us) n → n < 4294967296
values_bound [] n i = absurd i
values_bound (a ∷ us) n (inl e) = let h = a.in_range in omega arith
values_bound (a ∷ us) n (inr i) = values_bound us n i

-- A choice of two lists is the list of what it says, at the lists' values.
chosen_list : (P : List ℕ → List ℕ → ℕ → Type 0) (choice : Choice) → ((xs ys : List ℕ) (n : ℕ) → (is_chosen choice xs ys n ≡ true) ↔ P xs ys n) → ((xs ys : List ℕ) (n : ℕ) → P xs ys n → InList xs n ⊎ InList ys n) → (us ws : List Number) (a b made : List ℕ) → values us ≡ a → values ws ≡ b → made ≡ passing (is_chosen choice (values us) (values ws)) → IsListOf (P a b) made
chosen_list P choice says from us ws a b made e f m =
    let l = passing_list (is_chosen choice (values us) (values ws)) in
    let here : IsListOf (P (values us) (values ws)) (passing (is_chosen choice (values us) (values ws))) =
    record {
      ascending = l.ascending;
      same = λ n. (
        λ i. (says (values us) (values ws) n).0 ((l.same n).0 i).1,
        λ p. (l.same n).1 (elim (from (values us) (values ws) n p) [ inl i ↦ values_bound us n i | inr i ↦ values_bound ws n i ], (says (values us) (values ws) n).1 p),
      );
    } in
    let P1 : List ℕ → Type 0 = λ xs. IsListOf (P xs (values ws)) (passing (is_chosen choice (values us) (values ws))) in
    let P2 : List ℕ → Type 0 = λ ys. IsListOf (P a ys) (passing (is_chosen choice (values us) (values ws))) in
    let P3 : List ℕ → Type 0 = λ ms. IsListOf (P a b) ms in
    subst P3 (sym m) (subst P2 f (subst P1 e here))

pub either_list : (us ws : List Number) (a b made : List ℕ) → values us ≡ a → values ws ≡ b → made ≡ passing (is_chosen Either (values us) (values ws)) → IsListOf (λ n. InList a n ⊎ InList b n) made
either_list = chosen_list (λ xs ys n. InList xs n ⊎ InList ys n) Either (λ xs ys n. tells_either (has xs n) (has ys n) (has_tells xs n) (has_tells ys n)) (λ xs ys n i. i)

pub both_list : (us ws : List Number) (a b made : List ℕ) → values us ≡ a → values ws ≡ b → made ≡ passing (is_chosen Both (values us) (values ws)) → IsListOf (λ n. InList a n × InList b n) made
both_list = chosen_list (λ xs ys n. InList xs n × InList ys n) Both (λ xs ys n. tells_both (has xs n) (has ys n) (has_tells xs n) (has_tells ys n)) (λ xs ys n i. inl i.0)

pub first_list : (us ws : List Number) (a b made : List ℕ) → values us ≡ a → values ws ≡ b → made ≡ passing (is_chosen FirstOnly (values us) (values ws)) → IsListOf (λ n. InList a n × ¬ (InList b n)) made
first_list = chosen_list (λ xs ys n. InList xs n × ¬ (InList ys n)) FirstOnly (λ xs ys n. tells_first (has xs n) (has ys n) (has_tells xs n) (has_tells ys n)) (λ xs ys n i. inl i.0)

pub one_only_list : (us ws : List Number) (a b made : List ℕ) → values us ≡ a → values ws ≡ b → made ≡ passing (is_chosen OneOnly (values us) (values ws)) → IsListOf (λ n. (InList a n × ¬ (InList b n)) ⊎ (InList b n × ¬ (InList a n))) made
one_only_list = chosen_list (λ xs ys n. (InList xs n × ¬ (InList ys n)) ⊎ (InList ys n × ¬ (InList xs n))) OneOnly (λ xs ys n. tells_one (has xs n) (has ys n) (has_tells xs n) (has_tells ys n)) (λ xs ys n i. elim i [ inl p ↦ inl p.0 | inr p ↦ inr p.0 ])

-- A number of the list has a place.
placed : (us : List Number) (n : ℕ) → InList (values us) n → (a : Number) × Contains us a × (n ≡ a.value)
placed [] n i = absurd i
placed (a ∷ us) n (inl e) = (a, (0, omega arith, refl), e)
placed (a ∷ us) n (inr i) = let h = placed us n i in (h.0, (suc h.1.0, omega (arith, h.1.1), h.1.2), h.2)

pub at_place : (us : List Number) (n k : ℕ) (d : Number) → k < length us → (get_or us k d).value ≡ n → InList (values us) n
at_place [] n k d p e = absurd (omega arith)
at_place (a ∷ us) n zero d p e = inl (sym e)
at_place (a ∷ us) n (suc k) d p e = inr (at_place us n k d (omega arith) e)

contained : (us : List Number) (n : ℕ) (a : Number) → Contains us a → n ≡ a.value → InList (values us) n
contained us n a h e = at_place us n h.0 a h.1 (ap (λ (x : Number). x.value) h.2 ∙ sym e)

-- Strictly sorted numbers ascend.
abbrev pub by_value : Number → Number → Ordering
by_value = on (λ a. a.value) nat_cmp

strict_below : (x : Number) (us : List Number) → IsStrictlySortedBy by_value (x ∷ us) → IsBelow x.value (values us) × IsStrictlySortedBy by_value us
unfolding IsStrictlySortedBy
strict_below x [] s = (tt, s.1)
strict_below x (a ∷ us) s =
    let lt : x.value < a.value = ranked x.value a.value Less (sym s.0.0) in
    ((lt, (strict_below x us (s.0.1, s.1.1)).0), s.1)

strict_ascends : (us : List Number) → IsStrictlySortedBy by_value us → IsAscending (values us)
strict_ascends [] s = tt
strict_ascends (a ∷ us) s = let h = strict_below a us s in (h.0, strict_ascends us h.1)

-- What a sort and the removal of doubles leave.
pub sorted_list : (old mid new : List Number) → IsPermutation old mid → IsSorted by_value mid → IsFiltered (DiffersFromLast is_same) [] mid new → IsListOf (InList (values old)) (values new)
sorted_list old mid new p s f =
    let e : new ≡ dedup is_same mid = dedup_is is_same mid new f in
    let same : (a b : Number) → is_same a b ≡ true → a ≡ b = λ a b t. same_number a b (eqb-true a.value b.value t) in
    let strict : IsStrictlySortedBy by_value (dedup is_same mid) = IsStrictlySortedBy-dedup (on_total (λ (a : Number). a.value) nat_cmp_total) (λ a b. unsigned_ties a.value b.value) mid s in
    let up : IsAscending (values (dedup is_same mid)) = strict_ascends (dedup is_same mid) strict in
    let P : List Number → Type 0 = λ us. IsListOf (InList (values old)) (values us) in
    subst P (sym e) (record {
      ascending = up;
      same = λ n. (
        λ i. let h = placed (dedup is_same mid) n i in contained old n h.0 (Contains-permutation mid old h.0 (IsPermutation-sym old mid p) (Contains-from_dedup is_same mid h.0 h.1)) h.2,
        λ i. let h = placed old n i in contained (dedup is_same mid) n h.0 (Contains-dedup (on_equiv (λ (a : Number). a.value) nat_eq_equiv) same mid h.0 (Contains-permutation old mid h.0 p h.1)) h.2,
      );
    })

-- What a search by halves finds.
pub ascends_at : (us : List Number) → IsAscending (values us) → (i j : ℕ) (d : Number) → i ≤ j → j < length us → (get_or us i d).value ≤ (get_or us j d).value
ascends_at [] up i j d l b = absurd (omega arith)
ascends_at (u ∷ us) up zero zero d l b = omega arith
ascends_at (u ∷ us) up zero (suc j) d l b =
    let h : u.value < (get_or us j d).value = below_each u.value (values us) up.0 (get_or us j d).value (at_place us (get_or us j d).value j d (omega arith) refl) in
    omega arith
ascends_at (u ∷ us) up (suc i) zero d l b = absurd (omega arith)
ascends_at (u ∷ us) up (suc i) (suc j) d l b = ascends_at us up.1 i j d (omega arith) (omega arith)

pub index_up : (a b x : ℕ) → a ≤ b → ordering_index (nat_cmp a x) ≤ ordering_index (nat_cmp b x)
index_up a b x l = grind (arith, nat_tests)

pub not_found : (us : List Number) (n i : ℕ) → IsAscending (values us) → (IsNonDecreasingBy (λ (y : Number). ordering_index (nat_cmp y.value n)) us → IsPartitionPoint (λ (y : Number). nat_cmp y.value n ≡ Less) (λ (y : Number). nat_cmp y.value n ≡ Greater) us i) → InList (values us) n → ⊥
not_found us n i up part j =
    let p = part (λ a b d l m. index_up (get_or us a d).value (get_or us b d).value n (ascends_at us up a b d l m)) in
    let h = placed us n j in
    let k = h.1.0 in
    let e : (get_or us k h.0).value ≡ n = ap (λ (x : Number). x.value) h.1.2 ∙ sym h.2 in
    elim (cases_lt k i) [
      | inl l ↦ (let lt = ranked (get_or us k h.0).value n Less (sym (p.0 k h.0 (omega arith) l)) in omega arith)
      | inr l ↦ (let gt = ranked (get_or us k h.0).value n Greater (sym (p.1 k h.0 l h.1.1)) in omega arith)
    ]

pub searched_tells : (us : List Number) (xs : List ℕ) (n : ℕ) (r : Result ℕ ℕ) (b : Bool) → values us ≡ xs → IsAscending (values us) → IsBinarySearchResult (λ (y : Number). nat_cmp y.value n) us r → IsSearchInRange r (length us) → b ≡ is_ok r → IsTrue b ↔ InList xs n
searched_tells us xs n (Ok i) b e up found within t =
    let P : List ℕ → Type 0 = λ ys. InList ys n in
    (λ h. subst P e (here us i within found), λ h. t)
  where
    here : (vs : List Number) (i : ℕ) → i < length vs → ((d : Number) → nat_cmp (get_or vs i d).value n ≡ Equal) → InList (values vs) n
    here [] i l f = absurd (omega arith)
    here (v ∷ vs) i l f = at_place (v ∷ vs) n i v l (ranked (get_or (v ∷ vs) i v).value n Equal (sym (f v)))
searched_tells us xs n (Err i) b e up found within t =
    let P : List ℕ → Type 0 = λ ys. InList ys n in
    (λ h. let f : true ≡ false = sym h ∙ t in absurd cc, λ h. absurd (not_found us n i up found (subst P (sym e) h)))
