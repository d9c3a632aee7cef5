-- AS numbers that are sorted, each kept once: as many are left as there were just where none stood twice.
use Rattle.std.proofs.Common.{◌≡◌, ℕ, ◌≤◌, ◌↔◌, ◌==◌, Bool, true, false, List, [], ◌∷◌, inl, inr, suc, refl, sym, subst, ap, ◌∙◌, arith}
use Rattle.std.specs.Prelude.{length}
use Rattle.std.specs.List.{AllByRecursion, IsDistinct, dedup, dedup_from}
use Rattle.std.specs.List.Sorted.{IsPermutation, IsSorted}
use Rattle.std.specs.List.Retain.{DiffersFromLast, IsFiltered}
use Rattle.std.proofs.lemmas.Bool.{ne_eqb}
use Rattle.std.proofs.lemmas.Bool.Decides.{eqb_tells}
use Rattle.std.proofs.lemmas.List.{length-map}
use Rattle.std.proofs.lemmas.List.Filters.{dedup_is}
use Rattle.std.proofs.lemmas.List.Sorted.{IsPermutation-sym, length_permutation}
use Rattle.std.proofs.lemmas.Map.Keys.{IsDistinct-IsPermutation, IsDistinct-head, IsDistinct-tail}
use Rattle.resources_asn.specs.Chosen.{values}
use Rattle.resources_asn.specs.Listed.{AreDistinct, IsAscending, IsBelow, is_same}
use Rattle.resources_asn.specs.Numbers.{Number}
use Rattle.resources_asn.proofs.SmallLemmas.{by_value, sorted_list}

-- Equality of numbers asks in either order.
flips : (a b : ℕ) → a == b ≡ b == a
flips a b = elim (eqb_tells a b) [
  | inl p ↦ elim (eqb_tells b a) [ inl q ↦ p.0 ∙ sym q.0 | inr q ↦ absurd (q.1 (sym p.1)) ]
  | inr p ↦ elim (eqb_tells b a) [ inl q ↦ absurd (p.1 (sym q.1)) | inr q ↦ p.0 ∙ sym q.0 ]
]

same_flips : (a b : Number) → is_same a b ≡ is_same b a
same_flips a b = flips a.value b.value

-- Ascending numbers are distinct.
below_apart : (a : Number) (us : List Number) → IsBelow a.value (values us) → AllByRecursion (λ b. is_same a b ≡ false) us
below_apart a [] below = tt
below_apart a (u ∷ us) below = (ne_eqb a.value u.value (λ e. let h = below.0 in absurd (omega arith)), below_apart a us below.1)

ascending_distinct : (us : List Number) → IsAscending (values us) → AreDistinct us
unfolding IsDistinct
ascending_distinct [] up = tt
ascending_distinct (u ∷ us) up = (below_apart u us up.0, ascending_distinct us up.1)

-- No more are left than there were; where as many are, they are the same.
no_longer : (k : Number) (us : List Number) → length (dedup_from is_same k us) ≤ suc (length us)
no_longer k [] = omega arith
no_longer k (u ∷ us) = shorter (is_same u k) refl (no_longer k us) (no_longer u us)
  where
    shorter : (b : Bool) → is_same u k ≡ b → length (dedup_from is_same k us) ≤ suc (length us) → length (dedup_from is_same u us) ≤ suc (length us) → length (dedup_from is_same k (u ∷ us)) ≤ suc (suc (length us))
    shorter true e h i = rw e (omega arith)
    shorter false e h i = rw e (omega arith)

all_left : (k : Number) (us : List Number) → length (dedup_from is_same k us) ≡ suc (length us) → dedup_from is_same k us ≡ k ∷ us
all_left k [] e = refl
all_left k (u ∷ us) e = whole (is_same u k) refl (no_longer k us) (all_left u us) e
  where
    whole : (b : Bool) → is_same u k ≡ b → length (dedup_from is_same k us) ≤ suc (length us) → (length (dedup_from is_same u us) ≡ suc (length us) → dedup_from is_same u us ≡ u ∷ us)
        → length (dedup_from is_same k (u ∷ us)) ≡ suc (suc (length us)) → dedup_from is_same k (u ∷ us) ≡ k ∷ u ∷ us
    whole true t h others f = let g = rw t at f in absurd (omega arith)
    whole false t h others f = let g = rw t at f in rw t (ap (λ (l : List Number). k ∷ l) (others (omega arith)))

full : (us : List Number) → length (dedup is_same us) ≡ length us → dedup is_same us ≡ us
full [] e = refl
full (u ∷ us) e = all_left u us e

-- Distinct numbers are all left.
kept_from : (k : Number) (us : List Number) → AreDistinct (k ∷ us) → dedup_from is_same k us ≡ k ∷ us
kept_from k [] d = refl
kept_from k (u ∷ us) d =
    let other : is_same u k ≡ false = same_flips u k ∙ (IsDistinct-head is_same k (u ∷ us) d).0 in
    rw other (ap (λ (l : List Number). k ∷ l) (kept_from u us (IsDistinct-tail is_same k (u ∷ us) d)))

kept : (us : List Number) → AreDistinct us → dedup is_same us ≡ us
kept [] d = refl
kept (u ∷ us) d = kept_from u us d

-- What a sort and the removal of doubles tell.
pub sorted_tells : (old mid new : List Number) → IsPermutation old mid → IsSorted by_value mid → IsFiltered (DiffersFromLast is_same) [] mid new → (length (values new) ≡ length old) ↔ AreDistinct old
sorted_tells old mid new p sorted f =
    let e : new ≡ dedup is_same mid = dedup_is is_same mid new f in
    let same : length mid ≡ length old = length_permutation old mid p in
    let count : length (values new) ≡ length new = length-map new (λ (a : Number). a.value) in (
      λ h.
          let all : dedup is_same mid ≡ mid = full mid (ap length (sym e) ∙ sym count ∙ h ∙ sym same) in
          let up : IsAscending (values mid) = subst (λ (us : List Number). IsAscending (values us)) (e ∙ all) (sorted_list old mid new p sorted f).ascending in
          IsDistinct-IsPermutation is_same same_flips mid old (IsPermutation-sym old mid p) (ascending_distinct mid up),
      λ d. count ∙ ap length (e ∙ kept mid (IsDistinct-IsPermutation is_same same_flips old mid p d)) ∙ same,
    )
