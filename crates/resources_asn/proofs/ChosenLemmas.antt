-- What is chosen of two ascending lists.
use Rattle.std.proofs.Common.{◌≡◌, ℕ, ◌+◌, ◌<◌, ◌≤◌, ◌⊎◌, ◌==◌, ◌||◌, Bool, true, false, cond, List, [], ◌∷◌, inl, inr, refl, suc, zero, sym, subst, ap, ◌∙◌, arith, eq-eqb}
use Rattle.std.specs.Prelude.{length}
use Rattle.std.proofs.lemmas.Bool.{eqb-true, cases_lt}
use Rattle.std.proofs.Math.Nat.{eq-or-lt_of_le}
use Rattle.resources_asn.specs.Numbers.{Number}
use Rattle.resources_asn.specs.Listed.{InList, IsBelow, IsAscending, IsListOf}
use Rattle.resources_asn.specs.Chosen.{values, has, chooses, is_chosen, passing, passing_from, Leaves, TakesLeast}
use Rattle.resources_asn.specs.declared.selection.Choice.{Choice}
use Rattle.resources_asn.specs.declared.selection.Choice.TheVariants.{Either, Both, FirstOnly, OneOnly}
use Rattle.resources_asn.proofs.ListLemmas.{below_each, each_below, list_cons, list_nil, same_list}

-- Whether a list has a number.
or_either : (a b : Bool) → a || b ≡ true → (a ≡ true) ⊎ (b ≡ true)
or_either true b e = inl refl
or_either false b e = inr e

or_right : (a b : Bool) → b ≡ true → a || b ≡ true
or_right true b e = refl
or_right false b e = e

pub has_in : (xs : List ℕ) (n : ℕ) → has xs n ≡ true → InList xs n
has_in [] n e = absurd cc
has_in (x ∷ xs) n e = elim (or_either (n == x) (has xs n) e) [ inl a ↦ inl (eqb-true n x a) | inr b ↦ inr (has_in xs n b) ]

pub in_has : (xs : List ℕ) (n : ℕ) → InList xs n → has xs n ≡ true
in_has [] n i = absurd i
in_has (x ∷ xs) n (inl e) = ap (λ b. b || has xs n) (eq-eqb n x e)
in_has (x ∷ xs) n (inr i) = or_right (n == x) (has xs n) (in_has xs n i)

is_false : (b : Bool) → (b ≡ true → ⊥) → b ≡ false
is_false true h = absurd (h refl)
is_false false h = refl

pub not_in_has : (xs : List ℕ) (n : ℕ) → (InList xs n → ⊥) → has xs n ≡ false
not_in_has xs n h = is_false (has xs n) (λ e. h (has_in xs n e))

has_head : (n : ℕ) (xs : List ℕ) → has (n ∷ xs) n ≡ true
has_head n xs = in_has (n ∷ xs) n (inl refl)

has_other : (n k : ℕ) (xs : List ℕ) → (k ≡ n → ⊥) → has (n ∷ xs) k ≡ has xs k
has_other n k xs ne = ap (λ b. b || has xs k) (is_false (k == n) (λ e. ne (eqb-true k n e)))

below_has : (n k : ℕ) (xs : List ℕ) → IsBelow n xs → k ≤ n → has xs k ≡ false
below_has n k xs b h = not_in_has xs k (λ i. let l : n < k = below_each n xs b k i in omega arith)

-- What passes is the list of what passes.
abbrev InPass : (ℕ → Bool) → ℕ → ℕ → ℕ → Type 0
InPass p first count n = (first ≤ n) × (n < first + count) × (p n ≡ true)

from_head : (p : ℕ → Bool) (first k : ℕ) (b : Bool) (rest : List ℕ) → p first ≡ b → IsListOf (InPass p (first + 1) k) rest → IsListOf (InPass p first (suc k)) (cond b (first ∷ rest) rest)
from_head p first k true rest e r =
    list_cons first rest r (λ n i. let h = i.0 in omega arith)
    (λ n. (
      λ i. elim (eq-or-lt_of_le i.0) [ inl f ↦ inl (sym f) | inr l ↦ (let h = i.1 in inr (omega arith, omega arith, i.2)) ],
      λ s. elim s [ inl f ↦ (omega arith, omega arith, ap p f ∙ e) | inr i ↦ (let h = i.0 in let g = i.1 in (omega arith, omega arith, i.2)) ],
    ))
from_head p first k false rest e r = record {
  ascending = r.ascending;
  same = λ n. (
    λ i. let j = (r.same n).0 i in let h = j.0 in let g = j.1 in (omega arith, omega arith, j.2),
    λ i. elim (eq-or-lt_of_le i.0) [
      | inl f ↦ (let t : false ≡ true = sym e ∙ ap p f ∙ i.2 in absurd cc)
      | inr l ↦ (let h = i.1 in (r.same n).1 (omega arith, omega arith, i.2))
    ],
  );
}

passing_from_list : (p : ℕ → Bool) (first count : ℕ) → IsListOf (InPass p first count) (passing_from p first count)
unfolding passing_from
passing_from_list p first zero = list_nil (λ n i. let h = i.0 in let g = i.1 in omega arith)
passing_from_list p first (suc k) = from_head p first k (p first) (passing_from p (first + 1) k) refl (passing_from_list p (first + 1) k)

abbrev pub Passes : (ℕ → Bool) → ℕ → Type 0
Passes p n = (n < 4294967296) × (p n ≡ true)

pub passing_list : (p : ℕ → Bool) → IsListOf (Passes p) (passing p)
unfolding passing
passing_list p =
    let l = passing_from_list p 0 4294967296 in
    record { ascending = l.ascending; same = λ n. (λ i. let j = (l.same n).0 i in let g = j.1 in (omega arith, j.2), λ i. let g = i.0 in (l.same n).1 (omega arith, omega arith, i.1)) }

passing_cons : (p q : ℕ → Bool) (n : ℕ) → n < 4294967296 → p n ≡ true → ((k : ℕ) → p k ≡ true → n ≤ k) → ((k : ℕ) → q k ≡ true → n < k) → ((k : ℕ) → n < k → q k ≡ p k) → passing p ≡ n ∷ passing q
passing_cons p q n bound wanted least above same =
    let tail : IsListOf (Passes p) (n ∷ passing q) =
    list_cons n (passing q) (passing_list q) (λ k i. above k i.1)
    (λ k. (
      λ i. elim (eq-or-lt_of_le (least k i.1)) [ inl f ↦ inl (sym f) | inr l ↦ inr (i.0, same k l ∙ i.1) ],
      λ s. elim s [ inl f ↦ (omega arith, ap p f ∙ wanted) | inr i ↦ (i.0, sym (same k (above k i.1)) ∙ i.1) ],
    )) in
    same_list (passing p) (n ∷ passing q) (passing_list p) tail (λ k. (λ i. i, λ i. i))

passing_same : (p q : ℕ → Bool) → ((k : ℕ) → p k ≡ q k) → passing p ≡ passing q
passing_same p q same = same_list (passing p) (passing q) (passing_list p) (passing_list q) (λ k. (λ i. (i.0, sym (same k) ∙ i.1), λ i. (i.0, same k ∙ i.1)))

passing_none : (p : ℕ → Bool) → ((k : ℕ) → p k ≡ false) → passing p ≡ []
passing_none p none =
    let nil : IsListOf (Passes p) [] = list_nil (λ k i. let t : false ≡ true = sym (none k) ∙ i.1 in absurd cc) in
    same_list (passing p) [] (passing_list p) nil (λ k. (λ i. i, λ i. i))

-- One list when its number is taken.
pub leaves_has : (old new : List ℕ) (n : ℕ) (was : Bool) → Leaves old new n was → has old n ≡ was
leaves_has old new n was (inl l) = ap (λ xs. has xs n) l.1 ∙ has_head n new ∙ sym l.0
leaves_has old new n was (inr l) = below_has n n old l.2 (omega arith) ∙ sym l.0

pub leaves_below : (old new : List ℕ) (n : ℕ) (was : Bool) → IsAscending old → Leaves old new n was → IsBelow n new × IsAscending new
leaves_below old new n was a (inl l) = let P : List ℕ → Type 0 = λ xs. IsAscending xs in subst P l.1 a
leaves_below old new n was a (inr l) = let P : List ℕ → Type 0 = λ xs. IsBelow n xs × IsAscending xs in subst P l.1 (l.2, a)

pub leaves_same : (old new : List ℕ) (n : ℕ) (was : Bool) → Leaves old new n was → (k : ℕ) → (k ≡ n → ⊥) → has old k ≡ has new k
leaves_same old new n was (inl l) k ne = ap (λ xs. has xs k) l.1 ∙ has_other n k new ne
leaves_same old new n was (inr l) k ne = ap (λ xs. has xs k) l.1

none_chosen : (choice : Choice) → chooses choice false false ≡ false
none_chosen Either = refl
none_chosen Both = refl
none_chosen FirstOnly = refl
none_chosen OneOnly = refl

chosen_alike : (choice : Choice) (a b c d : Bool) → a ≡ c → b ≡ d → chooses choice a b ≡ chooses choice c d
chosen_alike choice a b c d e f = ap (λ x. chooses choice x b) e ∙ ap (λ y. chooses choice c y) f

low_none : (choice : Choice) (xs ys : List ℕ) (n k : ℕ) → IsBelow n xs → IsBelow n ys → k ≤ n → is_chosen choice xs ys k ≡ false
low_none choice xs ys n k a b h = chosen_alike choice (has xs k) (has ys k) false false (below_has n k xs a h) (below_has n k ys b h) ∙ none_chosen choice

module _ (choice : Choice) (xs ys xs' ys' : List ℕ) (n : ℕ) (b c : Bool) (ax : IsAscending xs) (ay : IsAscending ys) (t : TakesLeast xs ys xs' ys' n b c) where
  here : is_chosen choice xs ys n ≡ chooses choice b c
  here = chosen_alike choice (has xs n) (has ys n) b c (leaves_has xs xs' n b t.from_first) (leaves_has ys ys' n c t.from_second)

  other : (k : ℕ) → (k ≡ n → ⊥) → is_chosen choice xs ys k ≡ is_chosen choice xs' ys' k
  other k ne = chosen_alike choice (has xs k) (has ys k) (has xs' k) (has ys' k) (leaves_same xs xs' n b t.from_first k ne) (leaves_same ys ys' n c t.from_second k ne)

  behind : (k : ℕ) → k ≤ n → is_chosen choice xs' ys' k ≡ false
  behind k h = low_none choice xs' ys' n k (leaves_below xs xs' n b ax t.from_first).0 (leaves_below ys ys' n c ay t.from_second).0 h

  -- A number that isn't wanted is passed over.
  pub step_passed : chooses choice b c ≡ false → passing (is_chosen choice xs ys) ≡ passing (is_chosen choice xs' ys')
  step_passed unwanted =
      passing_same (is_chosen choice xs ys) (is_chosen choice xs' ys') (λ k. at k (cases_lt n k))
    where
      at : (k : ℕ) → (n < k) ⊎ (k ≤ n) → is_chosen choice xs ys k ≡ is_chosen choice xs' ys' k
      at k (inl l) = other k (λ e. omega arith)
      at k (inr l) = elim (eq-or-lt_of_le l) [ inl e ↦ ap (is_chosen choice xs ys) e ∙ here ∙ unwanted ∙ sym (behind k l) | inr m ↦ other k (λ e. omega arith) ]

  -- A number that is wanted comes first.
  pub step_taken : chooses choice b c ≡ true → n < 4294967296 → passing (is_chosen choice xs ys) ≡ n ∷ passing (is_chosen choice xs' ys')
  step_taken wanted bound =
      passing_cons (is_chosen choice xs ys) (is_chosen choice xs' ys') n bound (here ∙ wanted) (λ k i. least k i (cases_lt k n)) (λ k i. above k i (cases_lt n k)) (λ k l. sym (other k (λ e. omega arith)))
    where
      least : (k : ℕ) → is_chosen choice xs ys k ≡ true → (k < n) ⊎ (n ≤ k) → n ≤ k
      least k i (inl l) =
          let f : false ≡ true = sym (behind k (omega arith)) ∙ sym (other k (λ e. omega arith)) ∙ i in
          absurd cc
      least k i (inr l) = l

      above : (k : ℕ) → is_chosen choice xs' ys' k ≡ true → (n < k) ⊎ (k ≤ n) → n < k
      above k i (inl l) = l
      above k i (inr l) = let f : false ≡ true = sym (behind k l) ∙ i in absurd cc

-- Of two empty lists nothing is chosen.
pub chosen_none : (choice : Choice) (xs ys : List ℕ) → xs ≡ [] → ys ≡ [] → passing (is_chosen choice xs ys) ≡ []
chosen_none choice xs ys e f =
    passing_none (is_chosen choice xs ys) (λ k. chosen_alike choice (has xs k) (has ys k) false false (ap (λ zs. has zs k) e) (ap (λ zs. has zs k) f) ∙ none_chosen choice)

-- The smaller of two first numbers is the least of all.
below_all : (n : ℕ) (ys : List ℕ) (y : ℕ) (zs : List ℕ) → ys ≡ y ∷ zs → n < y → IsAscending ys → IsBelow n ys
below_all n ys y zs e l a =
    each_below n ys (λ k i. at k (subst (λ (xs : List ℕ). InList xs k) e i))
  where
    ordered : IsBelow y zs × IsAscending zs
    ordered = subst (λ (xs : List ℕ). IsAscending xs) e a

    at : (k : ℕ) → InList (y ∷ zs) k → n < k
    at k (inl f) = omega arith
    at k (inr j) = let h = below_each y zs ordered.0 k j in omega arith

pub take_first : (xs ys xs' ys' : List Number) (a b : Number) → xs ≡ a ∷ xs' → ys ≡ b ∷ ys' → a.value < b.value → IsAscending (values ys) → TakesLeast (values xs) (values ys) (values xs') (values ys) a.value true false
take_first xs ys xs' ys' a b e f l up = record {
  from_first = inl (refl, ap values e);
  from_second = inr (refl, refl, below_all a.value (values ys) b.value (values ys') (ap values f) l up);
  shorter = let h : length (values xs) ≡ length (values (a ∷ xs')) = ap (λ zs. length (values zs)) e in omega arith;
}

pub take_second : (xs ys xs' ys' : List Number) (a b : Number) → xs ≡ a ∷ xs' → ys ≡ b ∷ ys' → b.value < a.value → IsAscending (values xs) → TakesLeast (values xs) (values ys) (values xs) (values ys') b.value false true
take_second xs ys xs' ys' a b e f l up = record {
  from_first = inr (refl, refl, below_all b.value (values xs) a.value (values xs') (ap values e) l up);
  from_second = inl (refl, ap values f);
  shorter = let h : length (values ys) ≡ length (values (b ∷ ys')) = ap (λ zs. length (values zs)) f in omega arith;
}
