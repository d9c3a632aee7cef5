-- Keys that ascend, found by halving.
use Rattle.std.proofs.Common.{◌≡◌, ℕ, zero, suc, ◌<◌, ◌||◌, Bool, true, false, List, [], ◌∷◌, Result, Ok, Err, inl, inr, length, map, refl, sym, ap, ◌∙◌, arith, bytes_eq, slice_index_or}
use Rattle.std.proofs.lemmas.Bool.{cases_lt}
use Rattle.std.proofs.lemmas.Cmp.{tied_itself}
use Rattle.std.proofs.lemmas.List.Sorted.{list_any-IsPermutation, searchable_from_sorted}
use Rattle.std.proofs.lemmas.Map.Lookups.{exact_bytes}
use Rattle.std.proofs.lemmas.Slice.Eq.{bytes_eq-Decides}
use Rattle.std.specs.Cmp.Lexicographic.{slice_cmp, nat_list_cmp_total}
use Rattle.std.specs.List.{list_any}
use Rattle.std.specs.List.Sorted.{IsBinarySearchResult, IsPermutation, IsSearchInRange, IsSorted}
use Rattle.std.specs.Ordering.{nat_cmp}
use Rattle.std.specs.Prelude.{is_ok}
use Rattle.std.specs.declared.cmp.Ordering.TheVariants.{Less, Equal, Greater}
use Rattle.rpki_walk.specs.rpki_bundle.Uris.{lookup_key}
use Rattle.rpki_walk.specs.Naming.{names_key}

-- Sorted keys of URIs are their keys.
any_map : (uris : List (List ℕ)) (key : List ℕ) → list_any (λ k. bytes_eq key k) (map lookup_key uris) ≡ names_key uris key
any_map [] key = refl
any_map (u ∷ us) key = ap (λ (b : Bool). bytes_eq key (lookup_key u) || b) (any_map us key)

pub same_keys : (uris keys : List (List ℕ)) → IsPermutation (map lookup_key uris) keys → (key : List ℕ) → list_any (λ k. bytes_eq key k) keys ≡ names_key uris key
same_keys uris keys p key = sym (list_any-IsPermutation (λ (k : List ℕ). bytes_eq key k) (map lookup_key uris) keys p) ∙ any_map uris key

-- A key that stands at a place is there,
or_true : (b : Bool) → (b || true) ≡ true
or_true true = refl
or_true false = refl

at_place : (keys : List (List ℕ)) (key : List ℕ) (i : ℕ) → i < length keys → ((d : List ℕ) → slice_index_or keys i d ≡ key) → list_any (λ k. bytes_eq key k) keys ≡ true
at_place [] key i l h = absurd (omega (arith, l))
at_place (x ∷ xs) key zero l h = ap (λ (b : Bool). b || list_any (λ k. bytes_eq key k) xs) ((bytes_eq-Decides key x).1 (sym (h key)))
at_place (x ∷ xs) key (suc i) l h = ap (λ (b : Bool). bytes_eq key x || b) (at_place xs key i (omega (arith, l)) (λ d. h d)) ∙ or_true (bytes_eq key x)

-- and one that stands at none isn't.
not_same : (key x : List ℕ) → ¬ (x ≡ key) → bytes_eq key x ≡ false
not_same key x n = at (bytes_eq key x) refl
  where
    at : (b : Bool) → bytes_eq key x ≡ b → b ≡ false
    at true t = absurd (n (sym ((bytes_eq-Decides key x).0 t)))
    at false t = refl

no_place : (keys : List (List ℕ)) (key : List ℕ) → ((k : ℕ) (d : List ℕ) → k < length keys → ¬ (slice_index_or keys k d ≡ key)) → list_any (λ k. bytes_eq key k) keys ≡ false
no_place [] key h = refl
no_place (x ∷ xs) key h = ap (λ (b : Bool). b || list_any (λ k. bytes_eq key k) xs) (not_same key x (h 0 key (omega arith))) ∙ no_place xs key (λ k d l. h (suc k) d (omega (arith, l)))

-- What halving answers of keys that ascend.
pub halved : (keys : List (List ℕ)) (key : List ℕ) (r : Result ℕ ℕ) → IsSorted (slice_cmp nat_cmp) keys → IsSearchInRange r (length keys)
    → IsBinarySearchResult (λ y. slice_cmp nat_cmp y key) keys r → is_ok r ≡ list_any (λ k. bytes_eq key k) keys
halved keys key (Ok i) s inside h = sym (at_place keys key i inside (λ d. exact_bytes (slice_index_or keys i d) key (h d)))
halved keys key (Err i) s inside h =
    let parts = h (searchable_from_sorted nat_list_cmp_total (λ (x : List ℕ). x) keys key s) in
    sym (no_place keys key (λ k d l e.
    let equal : slice_cmp nat_cmp (slice_index_or keys k d) key ≡ Equal = ap (λ (z : List ℕ). slice_cmp nat_cmp z key) e ∙ tied_itself nat_list_cmp_total key in
    elim (cases_lt k i) [
      | inl below ↦ let wrong : Less ≡ Equal = sym (parts.0 k d (omega arith) below) ∙ equal in cc
      | inr over ↦ let wrong : Greater ≡ Equal = sym (parts.1 k d (omega (arith, over)) l) ∙ equal in cc
    ]))
